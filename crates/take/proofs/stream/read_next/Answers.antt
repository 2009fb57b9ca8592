use Rattle.take.proofs.laws.Steps.{brought_none}
use Rattle.take.proofs.stream.read_next.Goals as goal

pub returns-in-Err : goal.returns-in-Err
returns-in-Err g c = brought_none c.args.intake.now c.read.new.buf
