use Rattle.std.proofs.Common.{refl}
use Rattle.image.specs.Images.{words_of, item_words, constant_words, cells_sum}
use Rattle.image.proofs.example.example_image.Goals as goal

pub returns : goal.returns
unfolding words_of item_words constant_words cells_sum
returns c = refl
