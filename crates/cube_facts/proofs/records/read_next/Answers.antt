use Rattle.std.proofs.Common.{Bor, List, ℕ, Some}
use Rattle.csv.specs.Records.{fields_of}
use Rattle.cube_facts.proofs.Between.{ready, took, ended}
use Rattle.cube_facts.proofs.records.read_next.Goals as goal
use Rattle.cube_facts.proofs.records.read_next.Goals.{in-Ok, in-Err}

pub returns-clause-between : goal.returns-clause-between
returns-clause-between c = elim c.match-read_byte_record.branch [
  | in-Ok w ↦ rw w.result-is (λ is. (
      let read = rw is at (w.in-Ok.ensures.reads c.requires.0 (ready c.args.reader.now c.requires.1)) in
      (took (λ (s : Bor (List ℕ)). Some s.now) c.args.reader.now c.read_byte_record.new.self (fields_of c.read_byte_record.new.row) c.requires read (w.in-Ok.ensures.ready c.requires.0)).0))
  | in-Err w ↦ rw w.result-is tt
]

pub returns-clause-found : goal.returns-clause-found
returns-clause-found c = elim c.match-read_byte_record.branch [
  | in-Ok w ↦ rw w.result-is (λ is. (
      let read = rw is at (w.in-Ok.ensures.reads c.requires.0 (ready c.args.reader.now c.requires.1)) in
      (took (λ (s : Bor (List ℕ)). Some s.now) c.args.reader.now c.read_byte_record.new.self (fields_of c.read_byte_record.new.row) c.requires read (w.in-Ok.ensures.ready c.requires.0)).1))
  | in-Err w ↦ rw w.result-is tt
]

pub returns-clause-none : goal.returns-clause-none
returns-clause-none c = elim c.match-read_byte_record.branch [
  | in-Ok w ↦ rw w.result-is (λ is. (
      let read = rw is at (w.in-Ok.ensures.reads c.requires.0 (ready c.args.reader.now c.requires.1)) in
      ended (λ (s : Bor (List ℕ)). Some s.now) c.args.reader.now c.read_byte_record.new.self (fields_of c.read_byte_record.new.row) c.requires read))
  | in-Err w ↦ rw w.result-is tt
]
