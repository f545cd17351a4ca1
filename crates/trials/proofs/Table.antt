-- Every row of the table holds: its test is computed, definition by definition.
use mathlib.Core.Bool.{true}
use mathlib.Core.Path.{◌≡◌, refl}
use Rattle.rings.specs.Ring.{apartb, oddb, orderedb, ringb}
use Rattle.laws.specs.Tests.{both, either, all, any, least}
use Rattle.laws.specs.Counting.{count, many}
use Rattle.laws.specs.Lists.{from, keep}
use Rattle.laws.specs.Sorting.{gather, insert, sort}
use Rattle.laws.specs.Orbits.{lowest_on}
use Rattle.network.specs.Network.{touches, other, joins}
use Rattle.network.specs.Numbers.{oversize, odd, astray, looped, doubled, mispaired}
use Rattle.tree.specs.Tree.{higher, lower, climb, aboveb}
use Rattle.tree.specs.Returns.{returnb, returns, low}
use Rattle.search.specs.Machine.{free, lowest_free, take_line, leave, go, step, run, start, finished}
use Rattle.search.specs.Inside.{everyone}
use Rattle.fork.specs.Ends.{lowestb, high, more, top, highestb}
use Rattle.fork.specs.Fork.{forkb, groupb, sameb, differentb, levelb, wherever, legalb, alignedb}
use Rattle.fans.specs.Fan.{side_of as line_side, leaving, rank, nested, fan}
use Rattle.clockwise.specs.Order.{discovered, incoming, beside, clockwise}
use Rattle.meshes.specs.Meshes.{other_way, leave_by, follow_in, turned, next_direction, mesh_of, mesh_count, borders, mesh_size, mesh_list, size_list}
use Rattle.runs.proofs.Granted.{properb}
use Rattle.trials.specs.Trials.{side_named, sides, written, directions, Every, Holds}
use Rattle.trials.specs.Turning.{on_trip, round_trip, outer_mesh, encircles, walked, tripb, tripsb}
use Rattle.trials.specs.Tests.{agreeb, beforeb, not_later, scan, everyb, firstb, nextb, lastb, constraintb, roundb}
use Rattle.trials.specs.Table.{trials}
use Rattle.trials.proofs.Lists.{alike}
use Rattle.trials.proofs.Rounds.{goes_onb, roundsb, these}
use Rattle.trials.proofs.Claims.{each, fittingb, followedb, choicesb, drawsb, test}
use Rattle.trials.proofs.Rows.{refusal, holdsb, all_hold_of}

table_passes : each holdsb trials ≡ true
unfolding both either all any least count many from keep gather insert sort lowest_on touches other joins oversize odd astray looped doubled mispaired higher lower climb aboveb returnb returns low free lowest_free take_line leave go step run start finished everyone lowestb high more top highestb forkb groupb sameb differentb levelb wherever legalb alignedb apartb oddb orderedb ringb line_side leaving rank nested fan discovered incoming beside clockwise other_way leave_by follow_in turned next_direction mesh_of mesh_count borders mesh_size mesh_list size_list side_named sides written directions on_trip round_trip outer_mesh encircles walked tripb tripsb alike agreeb beforeb properb scan everyb not_later firstb nextb lastb constraintb roundb goes_onb these roundsb each fittingb followedb choicesb drawsb test refusal holdsb
table_passes = refl

pub all_hold : Every Holds trials
all_hold = all_hold_of trials table_passes
