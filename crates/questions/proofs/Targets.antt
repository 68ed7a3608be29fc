-- Question 9: the rule of targets lets items through exactly when each assigned operand may be written.
use Rattle.std.proofs.Common.{◌≡◌, Bool, true, false, cond, List, [], ◌∷◌, Some, None, sym, refl, ap, ◌∙◌, arith}
use Rattle.std.proofs.lemmas.Bool.Decides.{nat_tests}
use Rattle.std.proofs.lemmas.Bool.{cond-true}
use Rattle.operand.specs.declared.operand.Operand.{Operand as Place}
use Rattle.operand.specs.Codes.{may_write}
use Rattle.item.specs.declared.mnemonic.Form.{Form}
use Rattle.item.specs.declared.item.Item.{Item}
use Rattle.item.specs.declared.item.Item.TheVariants.{Nop, Start, Open, Close, Operand, Operator, Compare, Assign, EndIf, Call, Kind, Pin, Direct, Mark, End}
use Rattle.rule.specs.Automata.{reached}
use Rattle.fitting.specs.declared.targets.Targets.{Targets}
use Rattle.fitting.specs.Steps.{is_step}
use Rattle.fitting.specs.Targets.{targets, target_step, takes}
use Rattle.questions.specs.Everywhere.{Each}
use Rattle.questions.specs.Targets.{Written}
use Rattle.questions.proofs.Runs.{Through, first_step, through_more, through_none}

taken : (s v : Targets) (f : Form) (o : Place) → target_step s (Assign f o) ≡ Some v → takes f o ≡ true
taken s v f o h = by (takes f o) h
  where
    by : (b : Bool) → cond b (Some s) None ≡ Some v → b ≡ true
    by true h = refl
    by false h = cc

writable : (f : Form) (o : Place) (m : Bool) → may_write o ≡ m → takes f o ≡ true → m ≡ true
writable Form.Plain o m q h = sym q ∙ h
writable Form.Not o m q h = grind (arith, nat_tests)
writable Form.Minus o m q h = grind (arith, nat_tests)
writable Form.Set o m q h = grind (arith, nat_tests)
writable Form.Reset o m q h = grind (arith, nat_tests)

plain_step : (f : Form) (o : Place) → takes f o ≡ true → is_step o.kind ≡ true → f ≡ Form.Plain
plain_step Form.Plain o h s = refl
plain_step Form.Not o h s = grind (arith, nat_tests)
plain_step Form.Minus o h s = grind (arith, nat_tests)
plain_step Form.Set o h s = grind (arith, nat_tests)
plain_step Form.Reset o h s = grind (arith, nat_tests)

written : (s v : Targets) (x : Item) → target_step s x ≡ Some v → Written x
written s v Nop h = tt
written s v (Start t) h = tt
written s v (Open t) h = tt
written s v Close h = tt
written s v (Operand o) h = tt
written s v (Operator o) h = tt
written s v (Compare c) h = tt
written s v (Assign f o) h = let t = taken s v f o h in (writable f o (may_write o) refl t, plain_step f o t)
written s v EndIf h = tt
written s v (Call n) h = tt
written s v (Kind b) h = tt
written s v (Pin o) h = tt
written s v (Direct w) h = tt
written s v (Mark m) h = tt
written s v End h = tt

may_take : (f : Form) (o : Place) (b : Bool) → is_step o.kind ≡ b → may_write o ≡ true → (b ≡ true → f ≡ Form.Plain) → takes f o ≡ true
may_take f o true q w p = let e = p refl in ap (λ (g : Form). takes g o) e ∙ w
may_take f o false q w p = grind (arith, nat_tests)

step : (s : Targets) (x : Item) → Written x → target_step s x ≡ Some s
step s Nop w = refl
step s (Start t) w = refl
step s (Open t) w = refl
step s Close w = refl
step s (Operand o) w = refl
step s (Operator o) w = refl
step s (Compare c) w = refl
step s (Assign f o) w = cond-true _ _ _ (may_take f o (is_step o.kind) refl w.0 w.1)
step s EndIf w = refl
step s (Call n) w = refl
step s (Kind b) w = refl
step s (Pin o) w = refl
step s (Direct v) w = refl
step s (Mark m) w = refl
step s End w = refl

pub sound : (xs : List Item) (s u : Targets) → reached targets xs s ≡ Some u → Each Written xs
sound [] s u r = tt
sound (x ∷ xs) s u r = let (v, f, k) = first_step targets x xs s u r in (written s v x f, sound xs v u k)

pub complete : (xs : List Item) (s : Targets) → Each Written xs → Through targets xs s
complete [] s w = through_none targets s
complete (x ∷ xs) s w = through_more targets x xs s s (step s x w.0) (complete xs s w.1)
