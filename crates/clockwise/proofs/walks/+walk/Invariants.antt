-- At v the lines of the fan that were taken are done, and at each call of itself v is higher.
use Prim.Native.Nat.{◌-◌}
use Rattle.fans.proofs.Hanging.{remaining}
use Rattle.clockwise.specs.Walks.{EachWalk, SettingOut}
use Rattle.clockwise.proofs.Walking.{Walking}
use Rattle.clockwise.proofs.walks.+walk.Given as goal

abbrev pub decreases-walk : goal.decreases-walk
decreases-walk l = 512 - l.height

abbrev pub invariant-loop-next : goal.invariant-loop-next
invariant-loop-next l =
    EachWalk (λ S found. SettingOut S found l.v l.height l.forks l.uppers l.choice l.fans l.initial.path l.initial.groups)
    (λ S found. Walking S found l.v l.height l.choice l.fans l.initial.path l.path l.groups l.next)

abbrev pub decreases-loop-next : goal.decreases-loop-next
decreases-loop-next l = remaining l.fans.after l.next
