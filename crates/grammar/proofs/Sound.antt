use Rattle.std.proofs.Common.{◌≡◌, ℕ, zero, suc, Bool, true, false, ◌⊎◌, List, [], ◌∷◌, Some, None, Option, sym, subst, inl, inr}
use Rattle.catalogue.specs.declared.Block.{Block}
use Rattle.item.specs.declared.mnemonic.Comparison.{Comparison}
use Rattle.item.specs.declared.mnemonic.Operator.{Operator as Sign}
use Rattle.operand.specs.declared.operand.Operand.{Operand as Place}
use Rattle.item.specs.declared.mnemonic.Form.{Form}
use Rattle.item.specs.declared.mnemonic.Turn.{Turn}
use Rattle.item.specs.declared.item.Item.{Item}
use Rattle.item.specs.declared.item.Item.TheVariants.{Nop, Start, Open, Close, Operand, Operator, Compare, Assign, EndIf, Call, Kind, Pin, Direct, Mark, End}
use Rattle.grammar.specs.declared.automaton.Side.{Side}
use Rattle.grammar.specs.declared.automaton.Side.TheVariants.{First, Joined, Compared}
use Rattle.grammar.specs.declared.automaton.Grammar.{Grammar}
use Rattle.grammar.specs.declared.automaton.Grammar.TheVariants.{Between, Term, After, Assigned, Named, Pins, Done}
use Rattle.rule.specs.Automata.{reached, then}
use Rattle.grammar.specs.Grammar.{grammar, pin_count, waiting, begins, due, joins, compares, closes, further, more, kind_due, pin_due, grammar_step}
use Rattle.grammar.specs.Lists.{Nops, IsTerm, Further, Value, Assignments, IsPins, IsList}

-- what completes a list from each state of the automaton

-- assignments, then the rest of the list
abbrev Tail : List Item → Type 0
Tail xs = (ys : List Item) × Assignments xs ys × IsList ys

abbrev JoinedTail : List Item → Type 0
JoinedTail xs = (ys : List Item) × Further xs ys × (Tail ys)

abbrev ComparedTail : List Item → Type 0
ComparedTail xs = (c : Comparison) × (ys : List Item) × (zs : List Item) × Nops xs (Compare c ∷ ys) × IsTerm ys zs × (Tail zs)

-- behind a term, in d brackets
abbrev Behind : ℕ → Side → List Item → Type 0
Behind zero First xs = JoinedTail xs ⊎ ComparedTail xs
Behind zero Joined xs = JoinedTail xs
Behind zero Compared xs = Tail xs
Behind (suc d) s xs = (ys : List Item) × Further xs (Close ∷ ys) × (Behind d s ys)

-- a term behind an operator, and further ones
abbrev OneMore : List Item → List Item → Type 0
OneMore xs us = (o : Sign) × (ys : List Item) × (zs : List Item) × Nops xs (Operator o ∷ ys) × IsTerm ys zs × Further zs us

abbrev RestAfter : ℕ → Side → Bool → List Item → Type 0
RestAfter zero s n xs = Behind zero s xs
RestAfter (suc d) s false xs = Behind (suc d) s xs
RestAfter (suc d) s true xs = (ys : List Item) × (OneMore xs (Close ∷ ys)) × (Behind d s ys)

data Kinded : List Item → Type 0 where
  kinded : {xs ys : List Item} (k : Block) → IsPins (pin_count k) xs ys → IsList ys → Kinded (Kind k ∷ xs)

data Empty : List Item → Type 0 where
  empty : Empty []

abbrev Rest : Grammar → List Item → Type 0
Rest Between xs = IsList xs
Rest (Term d s) xs = (ys : List Item) × IsTerm xs ys × (Behind d s ys)
Rest (After d s n) xs = RestAfter d s n xs
Rest Assigned xs = IsList xs ⊎ Tail xs
Rest Named xs = Kinded xs
Rest (Pins n) xs = (ys : List Item) × IsPins (suc n) xs ys × IsList ys
Rest Done xs = Empty xs

abbrev Ok : Option Grammar → List Item → Type 0
Ok None xs = ⊥
Ok (Some g) xs = Rest g xs

-- an item that leads to a state stands before what completes from there

plain_behind : (d : ℕ) (s : Side) (xs : List Item) → RestAfter d s false xs → Behind d s xs
plain_behind zero s xs h = h
plain_behind (suc d) s xs h = h

sentence_of : {xs : List Item} (t : Turn) → Rest (Term 0 First) xs → IsList (Start t ∷ xs)
sentence_of t (ys, h, inl (zs, k, (us, a, l))) = IsList.sentence t (Value.terms h k) a l
sentence_of t (ys, h, inr (c, zs, us, n, k, (vs, a, l))) = IsList.sentence t (Value.compared c h n k) a l

call_of : {xs : List Item} (j : Option ℕ) → Kinded xs → IsList (Call j ∷ xs)
call_of j (kinded k p l) = IsList.call j k p l

end_of : {xs : List Item} → Empty xs → IsList (End ∷ xs)
end_of empty = IsList.end

back_begins : (i : Item) (xs : List Item) → Ok (begins i) xs → IsList (i ∷ xs)
back_begins Nop xs h = IsList.nop h
back_begins (Start t) xs h = sentence_of t h
back_begins (Open t) xs h = absurd h
back_begins Close xs h = absurd h
back_begins (Operand o) xs h = absurd h
back_begins (Operator o) xs h = absurd h
back_begins (Compare c) xs h = absurd h
back_begins (Assign f o) xs h = absurd h
back_begins EndIf xs h = absurd h
back_begins (Call j) xs h = call_of j h
back_begins (Kind k) xs h = absurd h
back_begins (Pin o) xs h = absurd h
back_begins (Direct w) xs h = absurd h
back_begins (Mark m) xs h = IsList.mark m h
back_begins End xs h = end_of h

assignments_nop : {xs ys : List Item} → Assignments xs ys → Assignments (Nop ∷ xs) ys
assignments_nop (Assignments.last f o h) = Assignments.last f o (Nops.nop h)
assignments_nop (Assignments.end_if h) = Assignments.end_if (Nops.nop h)
assignments_nop (Assignments.another f o h k) = Assignments.another f o (Nops.nop h) k

tail_nop : (xs : List Item) → Tail xs → Tail (Nop ∷ xs)
tail_nop xs h = (h.0, assignments_nop h.1, h.2)

assigned_nop : (xs : List Item) → Rest Assigned xs → Rest Assigned (Nop ∷ xs)
assigned_nop xs (inl l) = inl (IsList.nop l)
assigned_nop xs (inr t) = inr (tail_nop xs t)

assign_tail : (f : Form) (o : Place) (xs : List Item) → Rest Assigned xs → Tail (Assign f o ∷ xs)
assign_tail f o xs (inl l) = (xs, Assignments.last f o Nops.here, l)
assign_tail f o xs (inr (ys, a, l)) = (ys, Assignments.another f o Nops.here a, l)

end_if_tail : (xs : List Item) → IsList xs → Tail (EndIf ∷ xs)
end_if_tail xs l = (xs, Assignments.end_if Nops.here, l)

back_more : (i : Item) (xs : List Item) → Ok (more i) xs → Rest Assigned (i ∷ xs)
back_more Nop xs h = assigned_nop xs h
back_more (Start t) xs h = inl (sentence_of t h)
back_more (Open t) xs h = absurd h
back_more Close xs h = absurd h
back_more (Operand o) xs h = absurd h
back_more (Operator o) xs h = absurd h
back_more (Compare c) xs h = absurd h
back_more (Assign f o) xs h = inr (assign_tail f o xs h)
back_more EndIf xs h = inr (end_if_tail xs h)
back_more (Call j) xs h = inl (call_of j h)
back_more (Kind k) xs h = absurd h
back_more (Pin o) xs h = absurd h
back_more (Direct w) xs h = absurd h
back_more (Mark m) xs h = inl (IsList.mark m h)
back_more End xs h = inl (end_of h)

back_due : (d : ℕ) (s : Side) (i : Item) (xs : List Item) → Ok (due d s i) xs → Rest (Term d s) (i ∷ xs)
back_due d s Nop xs h = absurd h
back_due d s (Start t) xs h = absurd h
back_due d s (Open t) xs h = (h.2.0, IsTerm.bracket t h.1 h.2.1, h.2.2)
back_due d s Close xs h = absurd h
back_due d s (Operand o) xs h = (xs, IsTerm.operand o, plain_behind d s xs h)
back_due d s (Operator o) xs h = absurd h
back_due d s (Compare c) xs h = absurd h
back_due d s (Assign f o) xs h = absurd h
back_due d s EndIf xs h = absurd h
back_due d s (Call j) xs h = absurd h
back_due d s (Kind k) xs h = absurd h
back_due d s (Pin o) xs h = absurd h
back_due d s (Direct w) xs h = absurd h
back_due d s (Mark m) xs h = absurd h
back_due d s End xs h = absurd h

joined_nop : {xs ys : List Item} → Further xs ys → Tail ys → JoinedTail (Nop ∷ xs)
joined_nop {xs} Further.none t = (Nop ∷ xs, Further.none, tail_nop xs t)
joined_nop {ys} (Further.term o h k r) t = (ys, Further.term o (Nops.nop h) k r, t)

ground_nop : (s : Side) (xs : List Item) → Behind zero s xs → Behind zero s (Nop ∷ xs)
ground_nop First xs (inl (ys, k, t)) = inl (joined_nop k t)
ground_nop First xs (inr (c, ys, zs, n, k, t)) = inr (c, ys, zs, Nops.nop n, k, t)
ground_nop Joined xs (ys, k, t) = joined_nop k t
ground_nop Compared xs t = tail_nop xs t

ground_operator : (s : Side) (o : Sign) (xs : List Item) → Ok (joins zero s) xs → Behind zero s (Operator o ∷ xs)
ground_operator First o xs (ys, h, (zs, k, t)) = inl (zs, Further.term o Nops.here h k, t)
ground_operator Joined o xs (ys, h, (zs, k, t)) = (zs, Further.term o Nops.here h k, t)
ground_operator Compared o xs h = absurd h

ground_compare : (s : Side) (c : Comparison) (xs : List Item) → Ok (compares zero s) xs → Behind zero s (Compare c ∷ xs)
ground_compare First c xs (ys, h, t) = inr (c, xs, ys, Nops.here, h, t)
ground_compare Joined c xs h = absurd h
ground_compare Compared c xs h = absurd h

ground_tail : (s : Side) (xs : List Item) → Tail xs → Behind zero s xs
ground_tail First xs t = inl (xs, Further.none, t)
ground_tail Joined xs t = (xs, Further.none, t)
ground_tail Compared xs t = t

back_ground : (s : Side) (n : Bool) (i : Item) (xs : List Item) → Ok (further zero s n i) xs → Behind zero s (i ∷ xs)
back_ground s n Nop xs h = ground_nop s xs h
back_ground s n (Start t) xs h = absurd h
back_ground s n (Open t) xs h = absurd h
back_ground s n Close xs h = absurd h
back_ground s n (Operand o) xs h = absurd h
back_ground s n (Operator o) xs h = ground_operator s o xs h
back_ground s n (Compare c) xs h = ground_compare s c xs h
back_ground s n (Assign f o) xs h = ground_tail s (Assign f o ∷ xs) (assign_tail f o xs h)
back_ground s n EndIf xs h = ground_tail s (EndIf ∷ xs) (end_if_tail xs h)
back_ground s n (Call j) xs h = absurd h
back_ground s n (Kind k) xs h = absurd h
back_ground s n (Pin o) xs h = absurd h
back_ground s n (Direct w) xs h = absurd h
back_ground s n (Mark m) xs h = absurd h
back_ground s n End xs h = absurd h

inner_more : (d : ℕ) (s : Side) (n : Bool) (xs ys : List Item) → OneMore xs (Close ∷ ys) → Behind d s ys → RestAfter (suc d) s n xs
inner_more d s true xs ys m b = (ys, m, b)
inner_more d s false xs ys (o, us, zs, h, t, k) b = (ys, Further.term o h t k, b)

inner_close : (d : ℕ) (s : Side) (n : Bool) (xs : List Item) → Ok (closes (suc d) s n) xs → RestAfter (suc d) s n (Close ∷ xs)
inner_close d s true xs h = absurd h
inner_close d s false xs h = (xs, Further.none, plain_behind d s xs h)

nop_more : (xs us : List Item) → OneMore xs us → OneMore (Nop ∷ xs) us
nop_more xs us (o, ys, zs, h, t, k) = (o, ys, zs, Nops.nop h, t, k)

back_inner : (d : ℕ) (s : Side) (n : Bool) (i : Item) (xs : List Item) → Ok (further (suc d) s n i) xs → RestAfter (suc d) s n (i ∷ xs)
back_inner d s n Nop xs h = inner_more d s n (Nop ∷ xs) h.0 (nop_more xs (Close ∷ h.0) h.1) h.2
back_inner d s n (Start t) xs h = absurd h
back_inner d s n (Open t) xs h = absurd h
back_inner d s n Close xs h = inner_close d s n xs h
back_inner d s n (Operand o) xs h = absurd h
back_inner d s n (Operator o) xs h = inner_more d s n (Operator o ∷ xs) h.2.0 (o, xs, h.0, Nops.here, h.1, h.2.1) h.2.2
back_inner d s n (Compare c) xs h = absurd h
back_inner d s n (Assign f o) xs h = absurd h
back_inner d s n EndIf xs h = absurd h
back_inner d s n (Call j) xs h = absurd h
back_inner d s n (Kind k) xs h = absurd h
back_inner d s n (Pin o) xs h = absurd h
back_inner d s n (Direct w) xs h = absurd h
back_inner d s n (Mark m) xs h = absurd h
back_inner d s n End xs h = absurd h

pins_rest : (n : ℕ) (xs : List Item) → Rest (waiting n) xs → (ys : List Item) × IsPins n xs ys × IsList ys
pins_rest zero xs h = (xs, IsPins.none, h)
pins_rest (suc n) xs h = h

back_kind : (i : Item) (xs : List Item) → Ok (kind_due i) xs → Kinded (i ∷ xs)
back_kind Nop xs h = absurd h
back_kind (Start t) xs h = absurd h
back_kind (Open t) xs h = absurd h
back_kind Close xs h = absurd h
back_kind (Operand o) xs h = absurd h
back_kind (Operator o) xs h = absurd h
back_kind (Compare c) xs h = absurd h
back_kind (Assign f o) xs h = absurd h
back_kind EndIf xs h = absurd h
back_kind (Call j) xs h = absurd h
back_kind (Kind k) xs h = let p = pins_rest (pin_count k) xs h in kinded k p.1 p.2
back_kind (Pin o) xs h = absurd h
back_kind (Direct w) xs h = absurd h
back_kind (Mark m) xs h = absurd h
back_kind End xs h = absurd h

back_pin : (n : ℕ) (i : Item) (xs : List Item) → Ok (pin_due n i) xs → Rest (Pins n) (i ∷ xs)
back_pin n Nop xs h = absurd h
back_pin n (Start t) xs h = absurd h
back_pin n (Open t) xs h = absurd h
back_pin n Close xs h = absurd h
back_pin n (Operand o) xs h = absurd h
back_pin n (Operator o) xs h = absurd h
back_pin n (Compare c) xs h = absurd h
back_pin n (Assign f o) xs h = absurd h
back_pin n EndIf xs h = absurd h
back_pin n (Call j) xs h = absurd h
back_pin n (Kind k) xs h = absurd h
back_pin n (Pin o) xs h = let p = pins_rest n xs h in (p.0, IsPins.pin o p.1, p.2)
back_pin n (Direct w) xs h = let p = pins_rest n xs h in (p.0, IsPins.direct w p.1, p.2)
back_pin n (Mark m) xs h = absurd h
back_pin n End xs h = absurd h

back_after : (d : ℕ) (s : Side) (n : Bool) (i : Item) (xs : List Item) → Ok (further d s n i) xs → RestAfter d s n (i ∷ xs)
back_after zero s n i xs h = back_ground s n i xs h
back_after (suc d) s n i xs h = back_inner d s n i xs h

back : (g : Grammar) (i : Item) (xs : List Item) → Ok (grammar_step g i) xs → Rest g (i ∷ xs)
back Between i xs h = back_begins i xs h
back (Term d s) i xs h = back_due d s i xs h
back (After d s n) i xs h = back_after d s n i xs h
back Assigned i xs h = back_more i xs h
back Named i xs h = back_kind i xs h
back (Pins n) i xs h = back_pin n i xs h
back Done i xs h = absurd h

pub none_some : {A : Type 0} (x : A) → None ≡ Some x → ⊥
none_some x e = cc

pub some_same : {A : Type 0} (x y : A) → Some x ≡ Some y → x ≡ y
some_same x y e = cc

rest_on : (xs : List Item) (o : Option Grammar) → ((g : Grammar) → reached grammar xs g ≡ Some Done → Rest g xs) → then (reached grammar xs) o ≡ Some Done → Ok o xs
rest_on xs None ih e = none_some Done e
rest_on xs (Some g) ih e = ih g e

-- what leads the automaton to its end completes a list
rest_of : (xs : List Item) (g : Grammar) → reached grammar xs g ≡ Some Done → Rest g xs
unfolding reached
rest_of [] g e = subst (λ (x : Grammar). Rest x []) (sym (some_same g Done e)) empty
rest_of (i ∷ xs) g e = back g i xs (rest_on xs (grammar_step g i) (rest_of xs) e)

pub list_from : (xs : List Item) → reached grammar xs Between ≡ Some Done → IsList xs
list_from xs e = rest_of xs Between e
