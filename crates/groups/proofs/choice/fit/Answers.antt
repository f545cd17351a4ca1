-- `fit` computes its definition, by its tests.
use Rattle.groups.proofs.Filling.{fit_tree, fit_high, fit_side}
use Rattle.groups.proofs.choice.fit.Goals as goal

pub returns-then-parity-eq-TREE : goal.returns-then-parity-eq-TREE
returns-then-parity-eq-TREE c = search fit_tree

pub returns-then-byte-gt-RIGHT : goal.returns-then-byte-gt-RIGHT
returns-then-byte-gt-RIGHT c = search fit_high

pub returns : goal.returns
returns c = search fit_side
