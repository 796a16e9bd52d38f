-- What a book said that was begun for a command is said of its cube, or the command ended before that.
use Rattle.std.proofs.Common.{List}
use Rattle.cube_model.specs.declared.entry.Entry.{Entry}
use Rattle.cube_model.specs.declared.policy.Policy.{Policy}
use Rattle.cube_model.specs.Cores.{Core}
use Rattle.cube_io.specs.Seen.{FolderState, StoreState, Seen}
use Rattle.cube_engine.specs.Books.{Book}
use Rattle.cube_opening.specs.Opening.{Make}
use Rattle.cube_opening.specs.declared.cube_files.CubeFiles.{CubeFiles}
use Rattle.cube_starting.specs.Grouping.{AreHeld}
use Rattle.cube_starting.specs.OneCube.{under, IsBegun, Recovers}
use Rattle.cube_starting.proofs.Started.{opened, over}
use Rattle.cube_commands.specs.Ends.{SaidBy}

pub said_by : {S : Type 0} (cube : CubeFiles) (files : FolderState) (core : Core) (policy : Policy) (store : Seen StoreState S) (b : Book) (says : Core → Policy → List Entry → Type 0)
    → Make cube files core policy → IsBegun core policy store b → AreHeld core (under policy) store → Recovers core policy store → says b.core b.policy b.history → SaidBy cube files store says
said_by cube files core policy store b says make begun held passed x = record {
  core = core;
  policy = policy;
  history = b.history;
  opened = opened cube files core policy store b make begun held;
  said = over says core policy store b begun x;
  passed = passed;
  exact = begun.started.exact;
}
