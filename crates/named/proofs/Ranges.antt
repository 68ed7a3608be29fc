-- The operands of an edition lie within the points of a plant.
use Rattle.std.proofs.Common.{◌≡◌, ℕ, ◌+◌, ◌*◌, ◌<◌, true, ◌&&◌, leb, refl, arith}
use Rattle.std.proofs.lemmas.Bool.{cond-true, lt-ltb}
use Rattle.std.proofs.lemmas.Bool.Decides.{nat_tests}
use Rattle.operand.specs.declared.edition.Edition.{Edition}
use Rattle.operand.specs.declared.edition.Edition.TheVariants.{Series90}
use Rattle.operand.specs.declared.kind.Kind.{Kind}
use Rattle.operand.specs.declared.kind.Kind.TheVariants.{Input, Output, Marker, Step, Constant, InputWord, OutputWord, MarkerWord, ConstantWord, MarkerDouble, ConstantDouble}
use Rattle.operand.specs.declared.operand.Operand.{Operand}
use Rattle.operand.specs.Codes.{in_range}
use Rattle.operand.specs.Ranges.{ranges_of, any_holds}
use Rattle.named.specs.Naming.{at_side, by_kind, group_point, word_point, operand_point, edition_point}

kind_whole : (e : Edition) (k : Kind) (g c : ℕ) → (leb c 15 && any_holds (ranges_of e) k (16 * g + c)) ≡ true
    → by_kind group_point word_point k g (16 * g + c) ≡ by_kind at_side (λ side place. at_side side (64 + place)) k g (16 * g + c)
kind_whole Series90 Input g c h = let l : g < 64 = grind (arith, nat_tests) in cond-true _ _ _ (lt-ltb g 64 l)
kind_whole Series90 Output g c h = let l : g < 64 = grind (arith, nat_tests) in cond-true _ _ _ (lt-ltb g 64 l)
kind_whole Series90 Marker g c h = refl
kind_whole Series90 Step g c h = refl
kind_whole Series90 Constant g c h = refl
kind_whole Series90 InputWord g c h = let l : 16 * g + c < 128 = grind (arith, nat_tests) in cond-true _ _ _ (lt-ltb (16 * g + c) 128 l)
kind_whole Series90 OutputWord g c h = let l : 16 * g + c < 128 = grind (arith, nat_tests) in cond-true _ _ _ (lt-ltb (16 * g + c) 128 l)
kind_whole Series90 MarkerWord g c h = refl
kind_whole Series90 ConstantWord g c h = refl
kind_whole Series90 MarkerDouble g c h = refl
kind_whole Series90 ConstantDouble g c h = refl

pub whole : (e : Edition) (o : Operand) → in_range e o ≡ true → operand_point o ≡ edition_point o
whole e o h = kind_whole e o.kind o.group o.channel h
