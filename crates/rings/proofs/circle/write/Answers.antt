-- `write` turns the chain to its lowest line and writes it place by place.
use Rattle.rings.proofs.Reading.{lines_more, kinds_more, lines_traced, kinds_traced}
use Rattle.rings.proofs.circle.write.Goals as goal

pub loop-j-preserved : goal.loop-j-preserved
loop-j-preserved c = (search lines_more, search kinds_more)

pub returns : goal.returns
returns c =
    record {
      from_place = c.lowest-m.result;
      up = c.goes_up-up.result;
      lowest = c.lowest-m.ensures;
      upward = c.goes_up-up.ensures;
      its_lines = search lines_traced;
      its_kinds = search kinds_traced;
    }
