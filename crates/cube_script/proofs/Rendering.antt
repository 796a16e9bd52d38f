-- The text of a log, put part by part.
use Rattle.std.proofs.Common.{◌≡◌, ℕ, ◌+◌, List, [], ◌∷◌, ◌++◌, length, take, drop, Option, Some, refl, sym, ◌∙◌, ap, append_assoc, append-nil, take-append-drop}
use Rattle.std.specs.Prelude.{slice_get, codes}
use Rattle.std.specs.Fmt.{decimal}
use Rattle.std.specs.Io.KnownBytes.{Appends}
use Rattle.cube_io.specs.Content.{AppendsPrefix}
use Rattle.cube_io.specs.Wires.{LogEntry, rendered, render}
use Rattle.cube_io.specs.Wires.LogEntry.{Sent}
use Rattle.cube_io.proofs.Told.{appends_then, appends_none, appends_same, prefix_within}
use Rattle.cube_script.specs.Heads.{sent_head}
use Rattle.cube_script.proofs.Ready.{take_next}

-- ---- a send

sent_text : (c : ℕ) (piece : List ℕ) → rendered (Sent c piece) ≡ sent_head c piece ++ piece ++ 10 ∷ []
sent_text c piece = ap (λ (l : List ℕ). l ++ 10 ∷ []) (sym (append_assoc (codes "sent " ++ decimal c ++ codes " " ++ decimal (length piece)) (10 ∷ []) piece))

-- its head was not put whole
pub head_broken : (c : ℕ) (piece : List ℕ) (l m : Option (List ℕ)) → AppendsPrefix l m (sent_head c piece) → AppendsPrefix l m (rendered (Sent c piece))
head_broken c piece l m k =
    prefix_within l l m [] (sent_head c piece) (piece ++ 10 ∷ []) (rendered (Sent c piece)) (appends_none l) k
    (sent_text c piece ∙ append_assoc (sent_head c piece) piece (10 ∷ []))

-- its bytes were not put whole
pub bytes_broken : (c : ℕ) (piece : List ℕ) (l m n : Option (List ℕ)) → Appends l m (sent_head c piece) → AppendsPrefix m n piece → AppendsPrefix l n (rendered (Sent c piece))
bytes_broken c piece l m n h k = prefix_within l m n (sent_head c piece) piece (10 ∷ []) (rendered (Sent c piece)) h k (sent_text c piece)

-- the line feed behind them was not put
pub feed_broken : (c : ℕ) (piece : List ℕ) (l m n o : Option (List ℕ)) → Appends l m (sent_head c piece) → Appends m n piece → AppendsPrefix n o (10 ∷ []) → AppendsPrefix l o (rendered (Sent c piece))
feed_broken c piece l m n o h k f =
    prefix_within l n o (sent_head c piece ++ piece) (10 ∷ []) [] (rendered (Sent c piece)) (appends_then l m n (sent_head c piece) piece h k) f
    (sent_text c piece ∙ sym (append-nil (sent_head c piece ++ piece ++ 10 ∷ [])))

pub sent_whole : (c : ℕ) (piece : List ℕ) (l m n o : Option (List ℕ)) → Appends l m (sent_head c piece) → Appends m n piece → Appends n o (10 ∷ []) → Appends l o (rendered (Sent c piece))
sent_whole c piece l m n o h k f =
    appends_same l o (sent_head c piece ++ piece ++ 10 ∷ []) (rendered (Sent c piece)) (sym (sent_text c piece))
    (appends_then l n o (sent_head c piece ++ piece) (10 ∷ []) (appends_then l m n (sent_head c piece) piece h k) f)

-- ---- the entries

render_append : (xs ys : List LogEntry) → render (xs ++ ys) ≡ render xs ++ render ys
render_append [] ys = refl
render_append (x ∷ xs) ys = ap (λ (l : List ℕ). rendered x ++ l) (render_append xs ys) ∙ sym (append_assoc (rendered x) (render xs) (render ys))

-- the text with one entry more
render_more : (log : List LogEntry) (place : ℕ) (e : LogEntry) → slice_get log place ≡ Some e → render (take (place + 1) log) ≡ render (take place log) ++ rendered e
render_more log place e at =
    ap render (take_next log place e at) ∙ render_append (take place log) (e ∷ []) ∙ ap (λ (l : List ℕ). render (take place log) ++ l) (append-nil (rendered e))

-- an entry more was put
pub entry_put : (log : List LogEntry) (place : ℕ) (e : LogEntry) (l m n : Option (List ℕ)) → slice_get log place ≡ Some e → Appends l m (render (take place log)) → Appends m n (rendered e) → Appends l n (render (take (place + 1) log))
entry_put log place e l m n at h k = rw (render_more log place e at) (appends_then l m n (render (take place log)) (rendered e) h k)

-- it was not put whole
pub entry_broken : (log : List LogEntry) (place : ℕ) (e : LogEntry) (l m n : Option (List ℕ)) → slice_get log place ≡ Some e → Appends l m (render (take place log)) → AppendsPrefix m n (rendered e) → AppendsPrefix l n (render log)
entry_broken log place e l m n at h k =
    let around : render log ≡ render (take place log) ++ rendered e ++ render (drop (place + 1) log) =
    ap render (sym (take-append-drop (place + 1) log)) ∙ render_append (take (place + 1) log) (drop (place + 1) log)
    ∙ ap (λ (t : List ℕ). t ++ render (drop (place + 1) log)) (render_more log place e at) in
    prefix_within l m n (render (take place log)) (rendered e) (render (drop (place + 1) log)) (render log) h k around
