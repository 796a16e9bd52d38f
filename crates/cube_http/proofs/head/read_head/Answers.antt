use Rattle.cube_http.proofs.Found.{found_of-spans}
use Rattle.cube_http.proofs.head.read_head.Goals as goal

pub returns-clause-value : goal.returns-clause-value
returns-clause-value c = found_of-spans c.args.bytes.now c.find_head.new.headers c.find_head.result c.requires.starts c.find_head.ensures.head
