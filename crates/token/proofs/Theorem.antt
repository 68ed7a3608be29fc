-- The parts of a text are the one way to cut it.
use Rattle.std.proofs.Common.{◌≡◌, ℕ, suc, ◌+◌, Bool, true, false, cond, List, [], ◌∷◌, ◌++◌, length, sym, refl, ap, ◌∙◌, subst, add-one, arith}
use Rattle.std.proofs.lemmas.Bool.{false≢true}
use Rattle.character.specs.Classes.{is_separator}
use Rattle.token.specs.Cuts.{Part, Cut, none, skip, take, Unbroken, Stops, parts_of, extend, glue, PartsAreTheCut}

-- does the text begin with a byte that is no separator?
abbrev begins : List ℕ → Bool
begins [] = false
begins (c ∷ cs) = cond (is_separator c) false true

-- one byte more in front of a part
longer : (q p c : ℕ) (xs : List ℕ) (ps : List Part) → Cut q xs ps → q ≡ suc p → begins xs ≡ true → is_separator c ≡ false → Cut p (c ∷ xs) (extend p c ps)
longer q p c xs ps none e b h = absurd (false≢true b)
longer q p c xs ps (skip s k) e b h = absurd (false≢true (rw s at b))
longer q p c xs ps (take {c = d} {cs = cs} {rest = rest} {ps = qs} u s k) e b h =
    take {cs = d ∷ cs} (h, u) s (subst (λ n. Cut n rest qs) (omega arith) k)

holds : (p : ℕ) (bs : List ℕ) → Cut p bs (parts_of p bs)
holds p [] = none
holds p (c ∷ cs) = by (is_separator c) refl (holds (suc p) cs)
  where
    one : (ds : List ℕ) (ps : List Part) → is_separator c ≡ false → Stops ds → Cut (suc p) ds ps → Cut p (c ∷ ds) (record { place = p; bytes = c ∷ [] } ∷ ps)
    one ds ps h s k = take {cs = []} (h, tt) s (subst (λ n. Cut n ds ps) (sym (add-one p)) k)

    joined : (ds : List ℕ) (ps : List Part) → is_separator c ≡ false → Cut (suc p) ds ps → Cut p (c ∷ ds) (glue p c ds ps)
    joined [] ps h k = one [] ps h tt k
    joined (d ∷ ds) ps h k = next (is_separator d) refl
      where
        next : (b : Bool) → is_separator d ≡ b → Cut p (c ∷ d ∷ ds) (glue p c (d ∷ ds) ps)
        next true e = rw e (one (d ∷ ds) ps h e k)
        next false e = rw e (longer (suc p) p c (d ∷ ds) ps k refl (rw e refl) h)

    by : (b : Bool) → is_separator c ≡ b → Cut (suc p) cs (parts_of (suc p) cs) → Cut p (c ∷ cs) (parts_of p (c ∷ cs))
    by true e k = rw e (skip e k)
    by false e k = rw e (joined cs (parts_of (suc p) cs) e k)

-- an unbroken run up to a separator or the end is the first part
front : (p c : ℕ) (cs rest : List ℕ) → Unbroken (c ∷ cs) → Stops rest → record { place = p; bytes = c ∷ cs } ∷ parts_of (p + length (c ∷ cs)) rest ≡ parts_of p ((c ∷ cs) ++ rest)
front p c [] [] u s = let h = u.0 in rw h refl
front p c [] (r ∷ rs) u s = let h = u.0 in simp (h, s, add-one)
front p c (d ∷ ds) rest u s =
    let h : is_separator c ≡ false = u.0 in
    let e : is_separator d ≡ false = u.1.0 in
    let first : parts_of p (c ∷ d ∷ (ds ++ rest)) ≡ extend p c (parts_of (suc p) (d ∷ (ds ++ rest))) = simp (h, e) in
    let shift : suc p + suc (length ds) ≡ p + suc (suc (length ds)) = omega arith in
    sym (first ∙ ap (extend p c) (sym (front (suc p) d ds rest u.1 s)) ∙ simp shift)

only : (p : ℕ) (bs : List ℕ) (ps : List Part) → Cut p bs ps → ps ≡ parts_of p bs
only p bs ps none = refl
only p bs ps (skip s k) = rw s (only _ _ _ k)
only p bs ps (take {c = c} {cs = cs} {rest = rest} u s k) = ap (λ ws. record { place = p; bytes = c ∷ cs } ∷ ws) (only _ _ _ k) ∙ front p c cs rest u s

pub parts_are_the_cut : PartsAreTheCut
parts_are_the_cut = (holds, only)
