-- How a talk ended: the status and the text.
use Rattle.std.specs.Prelude.{ℕ, List, [], ◌++◌, codes, decimal}
use Rattle.cube_talk.specs.declared.talk.Ending.{Ending}
use Rattle.cube_talk.specs.declared.talk.Ending.TheVariants.{Ended, InputFailed, OutputFailed, NoMemory, Spent}

abbrev pub status_of : Ending → ℕ
status_of Ended = 0
status_of InputFailed = 5
status_of OutputFailed = 6
status_of NoMemory = 7
status_of Spent = 10

-- the text on a talk that ended so, behind so many lines and bytes
abbrev pub ending_text : Ending → ℕ → ℕ → List ℕ
ending_text Ended lines bytes = []
ending_text InputFailed lines bytes = codes "input failed\n"
ending_text OutputFailed lines bytes = codes "output failed\n"
ending_text NoMemory lines bytes = codes "no memory\n"
ending_text Spent lines bytes = codes "spent: " ++ decimal lines ++ codes " requests, " ++ decimal bytes ++ codes " events\n"
