use Rattle.std.proofs.Common.{◌≡◌, ◌*ℤ◌, ◌∙◌, w32, w64, SFits, rules}
use borrow.Author.Numbers.{signed_product}
use Rattle.std.proofs.lemmas.Int.{to_z-of_z}
use Rattle.number.proofs.Products.{product_above}
use Rattle.number.proofs.operations.exact_product.Goals as goal

pub returns-clause-above : goal.returns-clause-above
returns-clause-above c =
    let fa : SFits w32 c.args.a = c.ranges.a in
    let fb : SFits w32 c.args.b = c.ranges.b in
    let a : c.from.result ≡ c.args.a = c.from.ensures ∙ to_z-of_z w32 c.args.a fa in
    let b : c.from-2.result ≡ c.args.b = c.from-2.ensures ∙ to_z-of_z w32 c.args.b fb in
    let ga : SFits w64 c.args.a = search rules in
    let gb : SFits w64 c.args.b = search rules in
    let p : SFits w64 (c.args.a *ℤ c.args.b) = simp to_z-of_z at (signed_product w64 w32 w32 c.args.a c.args.b fa fb tt) in
    simp (a, b, to_z-of_z) (product_above c.args.a c.args.b fa.sfits fb.sfits)
