-- How the lines of a piece are answered, one after another.
use Rattle.std.proofs.Common.{◌≡◌, ◌≢◌, ℕ, ◌-◌, List, [], ◌∷◌, ◌++◌, length, map, take, false, refl, sym, ap, ◌∙◌, append_assoc, append-nil, All, arith, subst}
use Rattle.std.specs.declared.option.Option.{Option}
use Rattle.std.specs.Str.Lines.{strip_carriage_return}
use Rattle.std.proofs.lemmas.List.{map-append}
use Rattle.std.proofs.lemmas.List.Elements.{All-append}
use Rattle.std.proofs.lemmas.List.Splits.{slice_split_none, slice_split_at}
use Rattle.cube_talk.specs.Lines.{is_feed, front, last_part, parts, open_line}
use Rattle.cube_talk.specs.Talk.{up_to, IsKept, Spoke}
use Rattle.cube_talk.specs.Piece.{PieceSays, HeardLine, HeardAll, HeardSome}
use Rattle.cube_talk.specs.declared.talk.Heard.{Heard}
use Rattle.cube_talk.specs.declared.talk.Heard.TheVariants as heard
use Rattle.cube_talk.proofs.Cuts.{some_parts, front_behind}
use Rattle.cube_talk.proofs.Kept.{up_to_all, up_to_more, answered_kept}
use Rattle.cube_talk.proofs.Speech.{Speech}
use Rattle.cube_talk.proofs.Spoken.{spoke_none, spoke_then, spoke_broken}

-- how the lines of a piece stand behind the first of them
pub record Progress {A B : Type 0} (says : A → B → List (List ℕ) → A → B → List ℕ → Type 0) (a a' : A) (b b' : B) (open_part piece rest carry waiting waiting' : List ℕ) (w w' : Option (List ℕ)) : Type 0 where
  pub first : List (List ℕ)
  pub now : List ℕ
  pub split : parts (open_part ++ piece) ≡ first ++ parts (now ++ rest)
  pub kept : IsKept carry now
  pub text : List ℕ
  pub answered : says a b (map strip_carriage_return first) a' b' text
  pub spoke : Spoke text waiting waiting' w w'

pub progress_start : {A B : Type 0} (sp : Speech A B) (a : A) (b : B) (open_part piece carry waiting : List ℕ) (w : Option (List ℕ)) → IsKept carry open_part → Progress sp.says a a b b open_part piece piece carry waiting waiting w w
progress_start sp a b open_part piece carry waiting w k = record {
  first = [];
  now = open_part;
  split = refl;
  kept = k;
  text = [];
  answered = sp.silent a b;
  spoke = spoke_none waiting w;
}

none_clean : All (λ b. is_feed b ≡ false) []
none_clean k d l = absurd (omega (arith, l))

pub none_kept : IsKept [] []
none_kept = record { clean = none_clean; kept = sym (up_to_all 65538 [] (omega arith)) }

-- one more line, at the end of what was open
next_part : (now rest line behind : List ℕ) → All (λ b. is_feed b ≡ false) now → rest ≡ line ++ 10 ∷ behind → All (λ b. is_feed b ≡ false) line → parts (now ++ rest) ≡ (now ++ line) ∷ parts ([] ++ behind)
next_part now rest line behind clean is fed =
    let whole : now ++ rest ≡ (now ++ line) ++ 10 ∷ behind = rw is (sym (append_assoc now line (10 ∷ behind))) in
    ap parts whole ∙ slice_split_at is_feed (now ++ line) 10 behind (All-append (λ b. is_feed b ≡ false) now line clean fed) refl

-- what was said, and then more
says_then : (h : Heard) (a b p q r : List ℕ) (w x y : Option (List ℕ)) → Spoke a p q w x → PieceSays h q r x y b → PieceSays h p r w y (a ++ b)
says_then heard.All a b p q r w x y s t = spoke_then a b p q r w x y s t
says_then heard.Spent a b p q r w x y s t = spoke_then a b p q r w x y s t
says_then heard.NoMemory a b p q r w x y s t = spoke_then a b p q r w x y s t
says_then heard.OutputFailed a b p q r w x y s t = spoke_broken a b p q w x y s t

-- the lines before what is behind
pub record AnsweredPiece {A B : Type 0} (says : A → B → List (List ℕ) → A → B → List ℕ → Type 0) (h : Heard) (a a' : A) (b b' : B) (open_part piece behind waiting waiting' : List ℕ) (w w' : Option (List ℕ)) : Type 0 where
  pub first : List (List ℕ)
  pub split : parts (open_part ++ piece) ≡ first ++ parts behind
  pub text : List ℕ
  pub answered : says a b (map strip_carriage_return first) a' b' text
  pub went : PieceSays h waiting waiting' w w' text

pub one_more : {A B : Type 0} (sp : Speech A B) (h : Heard) (a a' a'' : A) (b b' b'' : B) (open_part piece rest line behind carry kept waiting waiting' waiting'' : List ℕ) (w w' w'' : Option (List ℕ))
    → Progress sp.says a a' b b' open_part piece rest carry waiting waiting' w w' → rest ≡ line ++ 10 ∷ behind → All (λ b. is_feed b ≡ false) line → kept ≡ carry ++ take (65538 - length carry) line
    → HeardLine sp.says (PieceSays h waiting' waiting'' w' w'') a' a'' b' b'' (strip_carriage_return kept)
    → AnsweredPiece sp.says h a a'' b b'' open_part piece behind waiting waiting'' w w''
one_more sp h a a' a'' b b' b'' open_part piece rest line behind carry kept waiting waiting' waiting'' w w' w'' p is fed more l =
    let whole : kept ≡ up_to 65538 (p.now ++ line) = more ∙ ap (λ (c : List ℕ). c ++ take (65538 - length c) line) p.kept.kept ∙ up_to_more 65538 p.now line in
    let one = answered_kept sp a' a'' b' b'' (p.now ++ line) l.text (subst (λ (k : List ℕ). sp.says a' b' (strip_carriage_return k ∷ []) a'' b'' l.text) whole l.answered) in
    record {
      first = p.first ++ (p.now ++ line) ∷ [];
      split = p.split ∙ ap (λ (l : List (List ℕ)). p.first ++ l) (next_part p.now rest line behind p.kept.clean is fed) ∙ sym (append_assoc p.first ((p.now ++ line) ∷ []) (parts behind));
      text = p.text ++ l.text;
      answered = subst (λ (ls : List (List ℕ)). sp.says a b ls a'' b'' (p.text ++ l.text)) (sym (map-append strip_carriage_return p.first ((p.now ++ line) ∷ [])))
          (sp.onward a a' a'' b b' b'' (map strip_carriage_return p.first) (strip_carriage_return (p.now ++ line) ∷ []) p.text l.text p.answered one);
      went = says_then h p.text l.text waiting waiting' waiting'' w w' w'' p.spoke l.went;
    }

pub go_on : {A B : Type 0} (sp : Speech A B) (a a' : A) (b b' : B) (open_part piece behind carry waiting waiting' : List ℕ) (w w' : Option (List ℕ)) → AnsweredPiece sp.says heard.All a a' b b' open_part piece behind waiting waiting' w w' → carry ≡ []
    → Progress sp.says a a' b b' open_part piece behind carry waiting waiting' w w'
go_on sp a a' b b' open_part piece behind carry waiting waiting' w w' n none = record {
  first = n.first;
  now = [];
  split = n.split;
  kept = rw none none_kept;
  text = n.text;
  answered = n.answered;
  spoke = n.went;
}

pub answered_some : {A B : Type 0} (sp : Speech A B) (h : Heard) (a a' : A) (b b' : B) (open_part piece behind waiting waiting' : List ℕ) (w w' : Option (List ℕ)) → AnsweredPiece sp.says h a a' b b' open_part piece behind waiting waiting' w w'
    → HeardSome sp.says (PieceSays h waiting waiting' w w') a a' b b' open_part piece
answered_some sp h a a' b b' open_part piece behind waiting waiting' w w' n = record {
  first = n.first;
  more = front (parts behind);
  split = ap front n.split ∙ (front_behind n.first (parts behind) (some_parts behind)).0;
  text = n.text;
  answered = n.answered;
  went = n.went;
}

pub progress_some : {A B : Type 0} (sp : Speech A B) (a a' a'' : A) (b b' b'' : B) (open_part piece rest carry waiting waiting' waiting'' : List ℕ) (w w' w'' : Option (List ℕ)) → Progress sp.says a a' b b' open_part piece rest carry waiting waiting' w w'
    → a'' ≡ a' → b'' ≡ b' → waiting'' ≡ waiting' → w'' ≡ w' → HeardSome sp.says (PieceSays heard.NoMemory waiting waiting'' w w'') a a'' b b'' open_part piece
progress_some sp a a' a'' b b' b'' open_part piece rest carry waiting waiting' waiting'' w w' w'' p ea eb ew eo = rw (ea, eb, ew, eo) (record {
  first = p.first;
  more = front (parts (p.now ++ rest));
  split = ap front p.split ∙ (front_behind p.first (parts (p.now ++ rest)) (some_parts (p.now ++ rest))).0;
  text = p.text;
  answered = p.answered;
  went = p.spoke;
})

-- the lines of the piece before one that ends the talk, and that line where it was answered
pub line_some : {A B : Type 0} (sp : Speech A B) (h : Heard) (a a' a'' : A) (b b' b'' : B) (open_part piece rest line behind carry kept waiting waiting' waiting'' : List ℕ) (w w' w'' : Option (List ℕ))
    → Progress sp.says a a' b b' open_part piece rest carry waiting waiting' w w' → rest ≡ line ++ 10 ∷ behind → All (λ b. is_feed b ≡ false) line → kept ≡ carry ++ take (65538 - length carry) line
    → (h ≢ heard.NoMemory → HeardLine sp.says (PieceSays h waiting' waiting'' w' w'') a' a'' b' b'' (strip_carriage_return kept))
    → (h ≡ heard.NoMemory → (a'' ≡ a') × (b'' ≡ b') × (waiting'' ≡ waiting') × (w'' ≡ w'))
    → HeardSome sp.says (PieceSays h waiting waiting'' w w'') a a'' b b'' open_part piece
line_some sp heard.NoMemory a a' a'' b b' b'' open_part piece rest line behind carry kept waiting waiting' waiting'' w w' w'' p is fed more said none =
    let (ea, eb, ew, eo) = none refl in
    progress_some sp a a' a'' b b' b'' open_part piece rest carry waiting waiting' waiting'' w w' w'' p ea eb ew eo
line_some sp heard.All a a' a'' b b' b'' open_part piece rest line behind carry kept waiting waiting' waiting'' w w' w'' p is fed more said none =
    answered_some sp heard.All a a'' b b'' open_part piece behind waiting waiting'' w w'' (one_more sp heard.All a a' a'' b b' b'' open_part piece rest line behind carry kept waiting waiting' waiting'' w w' w'' p is fed more (said (λ e. cc)))
line_some sp heard.Spent a a' a'' b b' b'' open_part piece rest line behind carry kept waiting waiting' waiting'' w w' w'' p is fed more said none =
    answered_some sp heard.Spent a a'' b b'' open_part piece behind waiting waiting'' w w'' (one_more sp heard.Spent a a' a'' b b' b'' open_part piece rest line behind carry kept waiting waiting' waiting'' w w' w'' p is fed more (said (λ e. cc)))
line_some sp heard.OutputFailed a a' a'' b b' b'' open_part piece rest line behind carry kept waiting waiting' waiting'' w w' w'' p is fed more said none =
    answered_some sp heard.OutputFailed a a'' b b'' open_part piece behind waiting waiting'' w w'' (one_more sp heard.OutputFailed a a' a'' b b' b'' open_part piece rest line behind carry kept waiting waiting' waiting'' w w' w'' p is fed more (said (λ e. cc)))

-- no line ends in the rest
pub progress_all : {A B : Type 0} (sp : Speech A B) (a a' : A) (b b' : B) (open_part piece rest carry carry' waiting waiting' : List ℕ) (w w' : Option (List ℕ)) → Progress sp.says a a' b b' open_part piece rest carry waiting waiting' w w'
    → All (λ b. is_feed b ≡ false) rest → carry' ≡ carry ++ take (65538 - length carry) rest
    → HeardAll sp.says (PieceSays heard.All waiting waiting' w w') a a' b b' open_part piece carry'
progress_all sp a a' b b' open_part piece rest carry carry' waiting waiting' w w' p fed more =
    let clean = All-append (λ b. is_feed b ≡ false) p.now rest p.kept.clean fed in
    let one = slice_split_none is_feed (p.now ++ rest) clean in
    let all : parts (open_part ++ piece) ≡ p.first ++ (p.now ++ rest) ∷ [] = p.split ∙ ap (λ (l : List (List ℕ)). p.first ++ l) one in
    let ends = front_behind p.first ((p.now ++ rest) ∷ []) tt in
    let front_is : front (parts (open_part ++ piece)) ≡ p.first = ap front all ∙ ends.0 ∙ append-nil p.first in
    let last_is : open_line (open_part ++ piece) ≡ p.now ++ rest = ap last_part all ∙ ends.1 in
    let whole : carry' ≡ up_to 65538 (p.now ++ rest) = more ∙ ap (λ (c : List ℕ). c ++ take (65538 - length c) rest) p.kept.kept ∙ up_to_more 65538 p.now rest in
    record {
      text = p.text;
      answered = rw front_is p.answered;
      went = p.spoke;
      kept = rw last_is (record { clean = clean; kept = whole });
    }
