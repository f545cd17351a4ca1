-- Two results that draw's statement allows are equal.
use mathlib.Core.List.{List}
use mathlib.Core.Path.{◌≡◌, sym, ◌∙◌}
use Prim.Native.Nat.{ℕ, ◌/◌}
use lib.ListN.{length}
use Rattle.laws.proofs.Checks.{check_once}
use Rattle.network.specs.Network.{network}
use Rattle.network.specs.Numbers.{Answer}
use Rattle.network.proofs.Sifting.{checked_once, three_untouched_once}
use Rattle.drawing.specs.Draw.{cramped_draw, Drew, Draw}

module _ (n : ℕ) (ends choice order mesh sizes : List ℕ) (r r' : Answer) (order' order'' mesh' mesh'' sizes' sizes'' : List ℕ) where
  abbrev Same : Type 0
  Same = (r ≡ r') × (order' ≡ order'') × (mesh' ≡ mesh'') × (sizes' ≡ sizes'')

  drew_once : Drew (network n ends) choice order mesh sizes r order' mesh' sizes' → Drew (network n ends) choice order mesh sizes r' order'' mesh'' sizes'' → Same
  drew_once a b =
      (a.answers ∙ sym b.answers, a.the_order ∙ sym b.the_order, a.each_mesh ∙ sym b.each_mesh, a.each_size ∙ sym b.each_size)

  pub draw_once : Draw n ends choice order mesh sizes r order' mesh' sizes' → Draw n ends choice order mesh sizes r' order'' mesh'' sizes''
      → (r ≡ r') × (order' ≡ order'') × (mesh' ≡ mesh'') × (sizes' ≡ sizes'')
  draw_once =
      checked_once n ends (cramped_draw (length ends / 2) (length choice) (length order) (length mesh) (length sizes)) three_untouched_once
      (check_once (check_once drew_once (three_untouched_once 10)) (three_untouched_once 8))
