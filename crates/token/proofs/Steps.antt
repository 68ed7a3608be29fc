-- One byte further in a text.
use Rattle.std.proofs.Common.{◌≡◌, ℕ, zero, suc, ◌+◌, ◌-◌, ◌<◌, ◌≤◌, Bool, true, false, cond, leb, not, unwrap_or, MatchOption, Some, None, Option, List, [], ◌∷◌, length, get_or, take, drop, sym, refl, ap, ◌∙◌, subst, add-one, arith, length-drop}
use Rattle.std.specs.List.{position, position_or_len}
use Rattle.std.proofs.lemmas.List.Recursion.{is_position_or_len}
use Rattle.std.proofs.lemmas.List.Sums.{prefix_len-le-length}
use Rattle.std.proofs.lemmas.Bool.Decides.{nat_tests}
use Rattle.std.proofs.lemmas.List.{drop_more, drop-drop, at_drop_all}
use Rattle.character.specs.Classes.{is_separator}
use Rattle.token.specs.Cuts.{parts_of, extend}
use Rattle.token.specs.Runs.{run_length, Begins}

pub skip_step : (bs : List ℕ) (i : ℕ) → i < length bs → true ≡ is_separator (get_or bs i 0) → parts_of i (drop i bs) ≡ parts_of (i + 1) (drop (i + 1) bs)
skip_step bs i l h = rw (drop_more bs i 0 l, sym h, add-one) refl

-- separators alone from one place to another are passed over
skips : (bs : List ℕ) (from k : ℕ) → from + k ≤ length bs → ((j : ℕ) → from ≤ j → j < from + k → is_separator (get_or bs j 0) ≡ true) → parts_of from (drop from bs) ≡ parts_of (from + k) (drop (from + k) bs)
skips bs from zero l h = ap (λ n. parts_of n (drop n bs)) (omega arith)
skips bs from (suc k) l h =
    let before = skips bs from k (omega arith) (λ j a b. h j a (omega arith)) in
    let one = skip_step bs (from + k) (omega arith) (sym (h (from + k) (omega arith) (omega arith))) in
    before ∙ one ∙ ap (λ n. parts_of n (drop n bs)) (omega arith)

skips_to : (bs : List ℕ) (from n : ℕ) → from ≤ n → n ≤ length bs → ((j : ℕ) → from ≤ j → j < n → is_separator (get_or bs j 0) ≡ true) → parts_of from (drop from bs) ≡ parts_of n (drop n bs)
skips_to bs from n a l h =
    let same : from + (n - from) ≡ n = omega arith in
    skips bs from (n - from) (omega arith) (λ j u v. h j u (omega arith)) ∙ ap (λ m. parts_of m (drop m bs)) same

-- what a walk over the places found is where the next part begins
pub begins : (bs : List ℕ) (from n : ℕ) (r : Option ℕ) → n ≡ length bs
    → MatchOption r ((k : ℕ) → from ≤ k → k < n → is_separator (get_or bs k 0) ≡ true) (λ q. (from ≤ q) × (q < n) × (is_separator (get_or bs q 0) ≡ false) × ((k : ℕ) → from ≤ k → k < q → is_separator (get_or bs k 0) ≡ true))
    → Begins bs from r
begins bs from n None e h = by (leb from (length bs)) refl
  where
    by : (b : Bool) → leb from (length bs) ≡ b → parts_of from (drop from bs) ≡ []
    by true t = skips_to bs from (length bs) (grind (arith, nat_tests)) (omega arith) (λ j u v. h j u (omega arith)) ∙ at_drop_all (parts_of (length bs)) bs (length bs) (omega arith)
    by false t = at_drop_all (parts_of from) bs from (grind (arith, nat_tests))
begins bs from n (Some q) e (a, b, c, d) = (skips_to bs from q a (omega arith) d, a, omega arith, c)

-- how many bytes in front are no separators, as a search for the first separator finds it
pub run_is : (bs : List ℕ) → unwrap_or (position is_separator bs) (length bs) ≡ run_length bs
run_is bs =
    let n : run_length bs ≡ position_or_len is_separator bs = is_position_or_len run_length is_separator refl (λ x xs. ap (cond (is_separator x) 0) (omega arith)) bs in
    let most = prefix_len-le-length (λ x. not (is_separator x)) bs in
    grind (arith, nat_tests)

pub run_fits : (bs : List ℕ) → run_length bs ≤ length bs
run_fits [] = omega arith
run_fits (c ∷ cs) = by (is_separator c) (run_fits cs)
  where
    by : (b : Bool) → run_length cs ≤ length cs → cond b 0 (suc (run_length cs)) ≤ suc (length cs)
    by true h = omega arith
    by false h = omega arith

-- the part in front of a text that begins with no separator, and what follows it
abbrev pub FirstRun : ℕ → List ℕ → Type 0
FirstRun p cs = parts_of p cs ≡ record { place = p; bytes = take (run_length cs) cs } ∷ parts_of (p + run_length cs) (drop (run_length cs) cs)

-- a part is the longest run from its place on
pub parts_run : (p c : ℕ) (cs : List ℕ) → is_separator c ≡ false → FirstRun p (c ∷ cs)
parts_run p c [] h = rw h refl
parts_run p c (d ∷ ds) h = by_next (is_separator d) refl (parts_run (suc p) d ds)
  where
    by_next : (b : Bool) → is_separator d ≡ b → (is_separator d ≡ false → FirstRun (suc p) (d ∷ ds)) → FirstRun p (c ∷ d ∷ ds)
    by_next true e more = simp (h, e, add-one)
    by_next false e more =
        let first : parts_of p (c ∷ d ∷ ds) ≡ extend p c (parts_of (suc p) (d ∷ ds)) = simp (h, e) in
        let shift : suc p + suc (run_length ds) ≡ p + suc (suc (run_length ds)) = omega arith in
        first ∙ ap (extend p c) (more e) ∙ simp (h, e, shift)

-- where the run from `start` on ends
pub run_within : (bs : List ℕ) (start end : ℕ) → start < length bs → end ≡ start + run_length (drop start bs) → end ≤ length bs
run_within bs start end l e = omega (arith, run_fits (drop start bs), length-drop start bs)

pub part_found : (bs w : List ℕ) (from start end : ℕ) → parts_of from (drop from bs) ≡ parts_of start (drop start bs) → from ≤ start → start < length bs → is_separator (get_or bs start 0) ≡ false → end ≡ start + run_length (drop start bs) → w ≡ take (end - start) (drop start bs) → (parts_of from (drop from bs) ≡ record { place = start; bytes = w } ∷ parts_of end (drop end bs)) × (from < end) × (end ≤ length bs)
part_found bs w from start end same on l h e front =
    let n : ℕ = run_length (drop start bs) in
    let more = drop_more bs start 0 l in
    let some : 0 < n = rw (more, h) (omega arith) in
    let is : end - start ≡ n = omega (arith, e) in
    let front' : w ≡ take n (drop start bs) = front ∙ ap (λ k. take k (drop start bs)) is in
    let run : FirstRun start (drop start bs) = subst (FirstRun start) (sym more) (parts_run start (get_or bs start 0) (drop (start + 1) bs) h) in
    (same ∙ run ∙ simp (← front', drop-drop, ← e), omega arith, run_within bs start end l e)
