-- What a folder tells of its files, and what a read of one does.
use Rattle.std.specs.Prelude.{◌≡◌, ◌⊎◌, ℕ, ◌<◌, List, [], ◌∷◌, ◌++◌, length, ⊤, None, Some, Ok, Err, find, IsSomeAnd}
use Rattle.std.specs.declared.option.Option.{Option}
use Rattle.std.specs.declared.result.Result.{Result}
use Rattle.std.specs.Option.{option_map}
use Rattle.std.specs.Str.{bytes_eq}
use Rattle.cube_io.specs.declared.faults.ReadFault.{ReadFault}
use Rattle.cube_io.specs.declared.faults.ReadFault.TheVariants.{Failed, TooLong, NoMemory}

-- the most bytes that a file may have
abbrev pub max_file : ℕ
max_file = 67108864

-- the content of the file of this name
abbrev pub file_of : List (List ℕ × List ℕ) → List ℕ → Option (List ℕ)
file_of files name = option_map (λ file. file.1) (find (λ file. bytes_eq file.0 name) files)

-- what a read gives where the folder tells its files
abbrev pub GivesFile : Option (List ℕ) → Result (List ℕ) ReadFault → Type 0
GivesFile file (Ok text) = file ≡ Some text
GivesFile file (Err TooLong) = IsSomeAnd file (λ text. max_file < length text)
GivesFile file (Err Failed) = ⊤
GivesFile file (Err NoMemory) = ⊤

-- the name was asked for; where the call fails or finds no memory it may be lacking
abbrev pub Asks : List (List ℕ) → List (List ℕ) → List ℕ → Result (List ℕ) ReadFault → Type 0
Asks old new name (Ok text) = new ≡ old ++ name ∷ []
Asks old new name (Err TooLong) = new ≡ old ++ name ∷ []
Asks old new name (Err Failed) = (new ≡ old) ⊎ (new ≡ old ++ name ∷ [])
Asks old new name (Err NoMemory) = (new ≡ old) ⊎ (new ≡ old ++ name ∷ [])

-- the same, where the folder tells the names that it was asked for
abbrev pub AsksTold : Option (List (List ℕ)) → Option (List (List ℕ)) → List ℕ → Result (List ℕ) ReadFault → Type 0
AsksTold None new name result = ⊤
AsksTold (Some old) None name result = ⊥
AsksTold (Some old) (Some new) name result = Asks old new name result
