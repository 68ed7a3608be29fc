-- The length of what was written.
use Rattle.std.proofs.Common.{◌≡◌, ℕ, ◌++◌, Bool, true, false, cond, ◌&&◌, leb, List, length, Ok, Err, sym, ap, arith}
use Rattle.operand.specs.declared.edition.Edition.{Edition}
use Rattle.image.specs.declared.write.Written.{Written}
use Rattle.image.specs.declared.write.WriteRefusal.TheVariants.{TooMany, TooLong}
use Rattle.image.specs.Images.{words_of, most_items, most_constants}
use Rattle.image.specs.Writes.{counts_of}
use Rattle.std.proofs.Common.{take, ◌∙◌}
use Rattle.std.proofs.lemmas.List.{take_at}
use Rattle.operand.specs.declared.edition.Edition.TheVariants.{Series90}
use Rattle.checker.specs.Verdict.{verdict_of}
use Rattle.outcome.specs.Lines.{verdict_on}
use Rattle.translate.specs.Translation.{Due, Translation, translated, refused, written, write_due, due_for, image_of}

pub written_length : (e : Edition) (t : Translation) (room : ℕ) (w : Written) → due_for e t room ≡ written w → w.length ≡ length (image_of e t)
written_length e (translated is cs) room w h = by (leb (length is) most_items && leb (length cs) most_constants) (leb (length (words_of e is cs)) room) h
  where
    by : (a b : Bool) → write_due (cond a (cond b (Ok (counts_of e is cs)) (Err TooLong)) (Err TooMany)) ≡ written w → w.length ≡ length (words_of e is cs)
    by true true d = let same : counts_of e is cs ≡ w = cc in ap (λ (c : Written). c.length) (sym same)
    by true false d = let z : ◌≡◌ {A = ℕ} 0 1 = cc in absurd (omega arith)
    by false b d = let z : ◌≡◌ {A = ℕ} 0 1 = cc in absurd (omega arith)
written_length e (refused t) room w h = let z : ◌≡◌ {A = ℕ} 0 1 = cc in absurd (omega arith)

-- the verdict on the words that were written is that on the text
pub verdict_written : (t : Translation) (room n : ℕ) (w : Written) (rest : List ℕ) (buffer : List ℕ) → due_for Series90 t room ≡ written w → buffer ≡ image_of Series90 t ++ rest → n ≡ w.length
    → verdict_of (take n buffer) ≡ verdict_on (due_for Series90 t room) (image_of Series90 t)
verdict_written t room n w rest buffer due left len =
    let image : take n buffer ≡ image_of Series90 t = ap (take n) left ∙ take_at (image_of Series90 t) rest n (sym (len ∙ written_length Series90 t room w due)) in
    ap verdict_of image ∙ sym (ap (λ (d : Due). verdict_on d (image_of Series90 t)) due)
