-- A folder that tells the same of its files at some moment, behind the files of the new cube.
use Rattle.std.specs.Prelude.{IfSome, IsSomeAnd}
use Rattle.std.proofs.Common.{◌≡◌, ℕ, List, Option, sym, subst}
use Rattle.cube_model.specs.declared.policy.Policy.{Policy}
use Rattle.cube_model.specs.Cores.{Core}
use Rattle.cube_io.specs.Causes.{Rose}
use Rattle.cube_io.specs.Seen.{FolderState}
use Rattle.cube_opening.specs.Opening.{Make, MakesAll, HasAll}
use Rattle.cube_opening.specs.declared.cube_files.CubeFiles.{CubeFiles}

pub make_before : (cube : CubeFiles) (now then : FolderState) (core : Core) (policy : Policy) → then.files ≡ now.files → Make cube then core policy → Make cube now core policy
make_before cube now then core policy same make = subst (λ (fs : Option (List (List ℕ × List ℕ))). IfSome fs (MakesAll cube core policy)) same make

pub has_then : (cube : CubeFiles) (now then : FolderState) → then.files ≡ now.files → HasAll cube now → HasAll cube then
has_then cube now then same has = subst (λ (fs : Option (List (List ℕ × List ℕ))). IsSomeAnd fs (λ known. (core : Core) × ((policy : Policy) × MakesAll cube core policy known))) (sym same) has

-- no fault was counted from then on
pub calm_then : (a b c : ℕ) → b ≡ a → ¬ Rose a c → ¬ Rose b c
calm_then a b c same calm = subst (λ (n : ℕ). ¬ Rose n c) (sym same) calm

pub rose_before : (a b c : ℕ) → b ≡ a → Rose b c → Rose a c
rose_before a b c same rose = subst (λ (n : ℕ). Rose n c) same rose
