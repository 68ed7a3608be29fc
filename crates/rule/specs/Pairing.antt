-- What holds of two rules holds of both at once.
use Rattle.std.specs.Prelude.{◌≡◌, ℕ, true, Some, None, Option}
use Rattle.std.proofs.Common.{arith, ap}
use Rattle.item.specs.declared.item.Item.{Item}
use Rattle.item.specs.declared.item.Item.TheVariants.{Mark}
use Rattle.rule.specs.declared.both.Both.{Both}
use Rattle.rule.specs.Automata.{Automaton, opens}
use Rattle.rule.specs.Pair.{both, paired}

-- both have a next state
pub record Next {S T : Type 0} (o : Option S) (q : Option T) (p : Both S T) : Type 0 where
  pub one_is : o ≡ Some p.one
  pub two_is : q ≡ Some p.two

pub next_of : {S T : Type 0} (o : Option S) (q : Option T) (p : Both S T) → paired o q ≡ Some p → Next o q p
next_of None q p e = let z : ◌≡◌ {A = ℕ} 0 1 = cc in absurd (omega arith)
next_of (Some s) None p e = let z : ◌≡◌ {A = ℕ} 0 1 = cc in absurd (omega arith)
next_of {S} {T} (Some s) (Some t) p e =
    let i : record { one = s; two = t } ≡ p = cc in
    record { one_is = ap (λ (x : Both S T). Some x.one) i; two_is = ap (λ (x : Both S T). Some x.two) i }

module _ {S T : Type 0} (a : Automaton S) (b : Automaton T) where
  pub pair_anew :
      ((s t : S) (m : ℕ) → a.step s (Mark m) ≡ Some t → t ≡ a.start)
      → ((s t : T) (m : ℕ) → b.step s (Mark m) ≡ Some t → t ≡ b.start)
      → (s t : Both S T) (m : ℕ) → (both a b).step s (Mark m) ≡ Some t → t ≡ (both a b).start
  pair_anew f g s t m e =
      let w = next_of (a.step s.one (Mark m)) (b.step s.two (Mark m)) t e in
      λ i. record { one = f s.one t.one m w.one_is i; two = g s.two t.two m w.two_is i }

  pub pair_opened :
      ((s t : S) (i : Item) → opens i ≡ true → a.step s i ≡ Some t → a.step a.start i ≡ Some t)
      → ((s t : T) (i : Item) → opens i ≡ true → b.step s i ≡ Some t → b.step b.start i ≡ Some t)
      → (s t : Both S T) (i : Item) → opens i ≡ true → (both a b).step s i ≡ Some t → (both a b).step (both a b).start i ≡ Some t
  pair_opened f g s t i o e =
      let w = next_of (a.step s.one i) (b.step s.two i) t e in
      λ j. paired (f s.one t.one i o w.one_is j) (g s.two t.two i o w.two_is j)
