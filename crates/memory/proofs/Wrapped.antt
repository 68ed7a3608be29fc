-- From the arrays to the memory around them.
use Rattle.std.proofs.Common.{◌≡◌, ℕ, true, List, length, ℤ, sym, subst}
use Rattle.number.specs.declared.limit.Width.TheVariants.{Word, Double}
use Rattle.store.specs.declared.store.Store.{Store}
use Rattle.memory.specs.declared.memory.Memory.{Memory}
use Rattle.memory.specs.Facts.{steps_lawful, all_lawful, sizes_of, all_sizes}
use Rattle.store.specs.Changes.{with_history}
use Rattle.memory.specs.Laws.{TellsWord}
use Rattle.memory.specs.Readings.{output_word_of}
use Rattle.memory.proofs.Held.{Held, held_history}
use Rattle.memory.proofs.Told.{word_told}

pub held_of : (x : Memory) → Held x.store
held_of x = record {
  whole = x.whole;
  steps = x.steps;
  outs = x.output_words;
  marks = x.marker_words;
  consts = x.constant_words;
  doubles = x.marker_doubles;
  const_doubles = x.constant_doubles;
}

-- the facts that the type asks for, by its names
abbrev pub Asked : Store → Type 0
Asked n = record {
  whole : sizes_of n ≡ all_sizes;
  steps : steps_lawful n.chains ≡ true;
  output_words : all_lawful Word n.output_words ≡ true;
  marker_words : all_lawful Word n.marker_words ≡ true;
  constant_words : all_lawful Word n.constant_words ≡ true;
  marker_doubles : all_lawful Double n.marker_doubles ≡ true;
  constant_doubles : all_lawful Double n.constant_doubles ≡ true;
}

asked : (n : Store) → Held n → Asked n
asked n h = record {
  whole = h.whole;
  steps = h.steps;
  output_words = h.outs;
  marker_words = h.marks;
  constant_words = h.consts;
  marker_doubles = h.doubles;
  constant_doubles = h.const_doubles;
}

pub facts : {n k : Store} → n ≡ k → Held k → Asked n
facts {n} e h = asked n (subst Held (sym e) h)

-- where the history is lent: the facts once it is put back
pub lent : (x : Memory) (cells : List ℤ) → length cells ≡ length x.store.history → Asked (with_history x.store cells)
lent x cells e = asked (with_history x.store cells) (held_history x.store (held_of x) cells e)

-- what is told of an output word, at a memory whose type keeps what that asks
pub word_told_of : (x : Memory) (p : ℕ) → TellsWord x.store p (output_word_of x.store p)
word_told_of x p = word_told x.store (held_of x) p
