-- Which operands there are: ranges of places of a kind, by edition.
use Rattle.std.specs.Prelude.{◌≡◌, ℕ, ◌+◌, ◌*◌, Bool, cond, ◌&&◌, List, [], ◌∷◌, Some, None, Option, Result, ◌==◌, nat_le, ok_or}
use Rattle.std.specs.List.{list_any, list_all}
use Rattle.operand.specs.declared.kind.Kind.{Kind}
use Rattle.operand.specs.declared.kind.Kind.TheVariants.{Input, Output, Marker, Step, Constant, InputWord, OutputWord, MarkerWord, ConstantWord, MarkerDouble, ConstantDouble}
use Rattle.operand.specs.declared.edition.Edition.{Edition}
use Rattle.operand.specs.declared.edition.Edition.TheVariants.{Series90}
use Rattle.operand.specs.declared.edition.UnknownEdition.{UnknownEdition}
use Rattle.operand.specs.declared.edition.Range.{Range}
use Rattle.operand.specs.Kinds.{same_kind}

-- the number that an image's trailer has for the edition
abbrev pub edition_number : Edition → ℕ
edition_number Series90 = 90

-- the edition with a number, if there is one
abbrev pub edition_numbered : ℕ → Option Edition
edition_numbered n = cond (n == 90) (Some Series90) None

-- the edition with this number, or the number where no edition has it
abbrev pub IsEditionNumbered : ℕ → Result Edition UnknownEdition → Type 0
IsEditionNumbered n r = r ≡ ok_or (edition_numbered n) (record { 0 = n })

-- the channels of the groups from first to last
abbrev groups : Kind → ℕ → ℕ → Range
groups k first last = record { kind = k; first = 16 * first; last = 16 * last + 15 }

-- the channels from first to last of one group
abbrev channels : Kind → ℕ → ℕ → ℕ → Range
channels k group first last = record { kind = k; first = 16 * group + first; last = 16 * group + last }

abbrev pub series_90 : List Range
series_90 =
    groups Input 0 63
    ∷ groups Output 0 63
    ∷ groups Marker 0 255
    ∷ groups Step 0 127
    ∷ channels Constant 0 0 1
    ∷ groups InputWord 0 7
    ∷ groups OutputWord 0 7
    ∷ groups MarkerWord 0 255
    ∷ groups ConstantWord 0 39
    ∷ groups MarkerDouble 0 31
    ∷ groups ConstantDouble 0 7
    ∷ []

abbrev pub ranges_of : Edition → List Range
ranges_of Series90 = series_90

-- what a list may write, and what of it belongs to the system
abbrev pub writable_ranges : List Range
writable_ranges =
    groups Output 0 255 ∷ groups Marker 0 255 ∷ groups Step 0 255 ∷ groups OutputWord 0 255 ∷ groups MarkerWord 0 255 ∷ groups MarkerDouble 0 255 ∷ []

abbrev pub system_ranges : List Range
system_ranges = channels Marker 255 10 14 ∷ groups MarkerWord 254 255 ∷ []

abbrev pub range_holds : Range → Kind → ℕ → Bool
range_holds r k place = same_kind r.kind k && (nat_le r.first place && nat_le place r.last)

abbrev pub any_holds : List Range → Kind → ℕ → Bool
any_holds rs k place = list_any (λ r. range_holds r k place) rs

-- the rule of a table: a range does not end before it begins, and no place needs more than twelve bits
abbrev pub lawful_range : Range → Bool
lawful_range r = nat_le r.first r.last && nat_le r.last 4095

abbrev pub all_lawful : List Range → Bool
all_lawful rs = list_all lawful_range rs
