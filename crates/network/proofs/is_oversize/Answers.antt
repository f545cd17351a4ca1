-- `is_oversize` computes its definition, by its three tests.
use Rattle.network.proofs.Checks.{no_vertex, many_vertices, by_lines}
use Rattle.network.proofs.is_oversize.Goals as goal

pub returns-then-vertices-eq0 : goal.returns-then-vertices-eq0
returns-then-vertices-eq0 c = search no_vertex

pub returns-then-vertices-gt-VERTICES : goal.returns-then-vertices-gt-VERTICES
returns-then-vertices-gt-VERTICES c = search many_vertices

pub returns : goal.returns
returns c = search by_lines
