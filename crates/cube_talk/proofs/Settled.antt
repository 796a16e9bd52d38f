-- What was answered is written, and the talk goes on or ends.
use Rattle.std.proofs.Common.{◌≡◌, ◌≢◌, List, ℕ, [], ◌++◌, refl, sym, append-nil, None, Some}
use Rattle.std.specs.Prelude.{IfSome}
use Rattle.std.specs.declared.option.Option.{Option}
use Rattle.cube_talk.specs.Lines.{front, parts}
use Rattle.cube_talk.specs.Talk.{IsKept, Puts}
use Rattle.cube_talk.specs.Piece.{PieceSays, HeardLine, HeardAll, HeardSome, PutsBy, Follows}
use Rattle.cube_talk.specs.declared.talk.Ending.{Ending}
use Rattle.cube_talk.specs.declared.talk.Ending.TheVariants as ending
use Rattle.cube_talk.specs.declared.talk.Heard.{Heard}
use Rattle.cube_talk.specs.declared.talk.Heard.TheVariants as heard

-- however far the lines of the piece were answered
some_of : {A B : Type 0} (says : A → B → List (List ℕ) → A → B → List ℕ → Type 0) (h : Heard) (Went : List ℕ → Type 0) (a a' : A) (b b' : B) (o p carry : List ℕ)
    → (h ≡ heard.All → HeardAll says Went a a' b b' o p carry) → (h ≢ heard.All → HeardSome says Went a a' b b' o p) → HeardSome says Went a a' b b' o p
some_of says heard.All Went a a' b b' o p carry all some =
    let x = all refl in
    record { first = front (parts (o ++ p)); more = []; split = sym (append-nil (front (parts (o ++ p)))); text = x.text; answered = x.answered; went = x.went }
some_of says heard.Spent Went a a' b b' o p carry all some = some (λ e. cc)
some_of says heard.NoMemory Went a a' b b' o p carry all some = some (λ e. cc)
some_of says heard.OutputFailed Went a a' b b' o p carry all some = some (λ e. cc)

pub piece_settled : {A B : Type 0} (says : A → B → List (List ℕ) → A → B → List ℕ → Type 0) (h : Heard) (r : Option Ending) (a a' : A) (b b' : B) (p carry carry' q : List ℕ) (w x y : Option (List ℕ))
    → (h ≡ heard.All → (o : List ℕ) → IsKept carry o → HeardAll says (PieceSays h [] q w x) a a' b b' o p carry')
    → (h ≢ heard.All → (o : List ℕ) → IsKept carry o → HeardSome says (PieceSays h [] q w x) a a' b b' o p)
    → ((start : Option (List ℕ)) (text : List ℕ) → PieceSays h [] q start x text → PutsBy r start y text)
    → IfSome r (λ e. (o : List ℕ) → IsKept carry o → HeardSome says (Puts e w y) a a' b b' o p)
piece_settled says h None a a' b b' p carry carry' q w x y all some puts = tt
piece_settled says h (Some e) a a' b b' p carry carry' q w x y all some puts = λ o k.
    let s = some_of says h (PieceSays h [] q w x) a a' b b' o p carry' (λ i. all i o k) (λ n. some n o k) in
    record { first = s.first; more = s.more; split = s.split; text = s.text; answered = s.answered; went = puts w s.text s.went }

-- the line was answered where the talk didn't end for want of memory
pub line_settled : {A B : Type 0} (says : A → B → List (List ℕ) → A → B → List ℕ → Type 0) (h : Heard) (e : Ending) (a a' : A) (b b' : B) (line q : List ℕ) (w x y : Option (List ℕ))
    → Follows h (Some e) → e ≢ ending.NoMemory → (h ≡ heard.NoMemory → e ≢ ending.OutputFailed)
    → (h ≢ heard.NoMemory → HeardLine says (PieceSays h [] q w x) a a' b b' line)
    → ((start : Option (List ℕ)) (text : List ℕ) → PieceSays h [] q start x text → Puts e start y text)
    → HeardLine says (Puts e w y) a a' b b' line
line_settled says heard.NoMemory ending.Ended a a' b b' line q w x y f n quiet said puts = absurd f
line_settled says heard.NoMemory ending.InputFailed a a' b b' line q w x y f n quiet said puts = absurd f
line_settled says heard.NoMemory ending.OutputFailed a a' b b' line q w x y f n quiet said puts = absurd (quiet refl refl)
line_settled says heard.NoMemory ending.NoMemory a a' b b' line q w x y f n quiet said puts = absurd (n refl)
line_settled says heard.NoMemory ending.Spent a a' b b' line q w x y f n quiet said puts = cc
line_settled says heard.All e a a' b b' line q w x y f n quiet said puts =
    let s = said (λ i. cc) in record { text = s.text; answered = s.answered; went = puts w s.text s.went }
line_settled says heard.Spent e a a' b b' line q w x y f n quiet said puts =
    let s = said (λ i. cc) in record { text = s.text; answered = s.answered; went = puts w s.text s.went }
line_settled says heard.OutputFailed e a a' b b' line q w x y f n quiet said puts =
    let s = said (λ i. cc) in record { text = s.text; answered = s.answered; went = puts w s.text s.went }
