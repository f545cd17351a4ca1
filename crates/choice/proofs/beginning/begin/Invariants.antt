-- The tree is the one in the tables of the search.
use Rattle.tree.specs.Tree.{tree_of}
use Rattle.choice.proofs.beginning.begin.Given as goal

abbrev pub ghost-group : goal.ghost-group
ghost-group a = tree_of a.vertices a.lines a.ends.now a.kinds.now a.heights.now a.parents.now
