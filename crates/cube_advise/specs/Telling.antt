-- All that is told of a cube before anything is asked, or behind a history: what can be released, and the words for a workload.
use Rattle.std.specs.Prelude.{◌≡◌, ℕ, List, [], ◌++◌, true, IfSome, Option, Some, None}
use Rattle.cube_model.specs.declared.entry.Entry.{Entry}
use Rattle.cube_model.specs.declared.policy.Policy.{Policy}
use Rattle.cube_model.specs.Cores.{Core, shown}
use Rattle.cube_advise.specs.Advice.{advice_text}
use Rattle.cube_advise.specs.Behind.{behind_text}
use Rattle.cube_advise.specs.Lines.{is_workload, workload_words}

-- where there is a workload, it has few lines
abbrev pub HasFewLines : Option (List ℕ) → Type 0
HasFewLines workload = IfSome workload (λ text. is_workload text ≡ true)

-- the words for the lines of a workload, where there is one
abbrev pub words_for : Core → Policy → List Entry → Option (List ℕ) → List ℕ
words_for core policy h None = []
words_for core policy h (Some text) = workload_words core.dims (shown core policy) h text

-- what can be released before anything is asked, and the words
abbrev pub first_text : Core → Policy → Option (List ℕ) → List ℕ
first_text core policy workload = advice_text core.dims (shown core policy) [] ++ words_for core policy [] workload

-- what can be released behind a history and how much that holds, and the words
abbrev pub later_text : Core → Policy → List Entry → Option (List ℕ) → List ℕ
later_text core policy h workload = behind_text core.dims (shown core policy) h ++ words_for core policy h workload
