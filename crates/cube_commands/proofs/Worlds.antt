-- Over a world with the changes for a protected cell the same talk is written.
use Rattle.std.proofs.Common.{◌≡◌, ◌∙◌, refl, sym, ap, subst, ℕ, zero, suc, false, List, [], ◌∷◌, ◌++◌, length, append-nil, inl, inr}
use Rattle.std.specs.declared.option.Option.{Option}
use Rattle.std.specs.Prelude.{if◌then◌else◌}
use Rattle.std.specs.Str.Lines.{lines}
use Rattle.cube_model.specs.declared.cell.Cell.{Cell}
use Rattle.cube_model.specs.declared.entry.Entry.{Entry}
use Rattle.cube_model.specs.declared.outcome.Outcome.{Outcome}
use Rattle.cube_model.specs.declared.policy.Policy.{Policy}
use Rattle.cube_model.specs.Cores.{Core, IsCore, shown, world}
use Rattle.cube_model.specs.Cubes.{World, IsWorld, IsIn}
use Rattle.cube_model.specs.Dims.{Dims}
use Rattle.cube_model.specs.Policies.{IsPolicy}
use Rattle.cube_model.specs.Protection.{protected}
use Rattle.cube_model.specs.Rooms.{Room, alone}
use Rattle.cube_model.specs.Twins.{changes, twin}
use Rattle.cube_model.specs.TwoWorlds.{Extends}
use Rattle.cube_model.specs.Verdicts.{IsAdmissible}
use Rattle.cube_model.proofs.Filled.{cores_are_worlds}
use Rattle.cube_model.proofs.Growth.{extends_refl, extends_trans}
use Rattle.std.specs.Io.KnownBytes.{Appends}
use Rattle.cube_io.specs.Content.{AppendsPrefix}
use Rattle.cube_io.specs.Desks.{Manner}
use Rattle.cube_engine.specs.Steps.{manner}
use Rattle.cube_engine.specs.Worlds.{first_history}
use Rattle.cube_engine.proofs.Worlds.{Reads, texts_read, room_open, other_sum, behind_ask, next_alone, ask_grows, ask_stays}
use Rattle.cube_talk.specs.AskLaws.{by_test, said_long, said_one, rooms_long, rooms_one, rooms_append}
use Rattle.cube_talk.specs.Asks.{is_too_long, too_large, ask_of, asks_in, said, rooms_behind, up_to_asks, talk, Talk, Says, Talked}
use Rattle.cube_talk.specs.Lines.{ended_lines, open_line}
use Rattle.cube_talk.proofs.Talks.{last_lines, lines_are}
use Rattle.cube_talk.specs.Replies.{reply_text}
use Rattle.cube_io.specs.Seen.{SourceState, SinkState, Seen}
use Rattle.cube_engine.specs.Headline.{twin_by, Hides}
use Rattle.cube_talk.specs.declared.talk.Ending.{Ending}
use Rattle.cube_talk.specs.declared.talk.Ending.TheVariants.{Ended, InputFailed, OutputFailed, NoMemory, Spent}

-- ---- the history behind a line

abbrev next_of : Dims → World → List Entry → List ℕ → Outcome → List Entry
next_of s w h line o = behind_ask s w.shown h (ask_of line) o

-- lines of which the first is an ask
line_one : (s : Dims) (w : World) (h : List Entry) (line : List ℕ) (rest : List (List ℕ)) (o : Outcome) (os : List Outcome) → is_too_long line ≡ false → rooms_behind (manner s) (alone w h) (line ∷ rest) (o ∷ os) ≡ rooms_behind (manner s) (alone w (next_of s w h line o)) rest os
line_one s w h line rest o os short = rooms_one (manner s) (alone w h) line rest o os short ∙ ap (λ (rs : List Room). rooms_behind (manner s) rs rest os) (next_alone s w h (ask_of line) o)

-- ---- the history behind some lines

abbrev behind : Dims → World → List Entry → List (List ℕ) → List Outcome → List Entry
behind s w h ls os = first_history (rooms_behind (manner s) (alone w h) ls os)

-- it has what the first has, where each ask keeps it
behind_keeps : (P : List Entry → Type 0) (s : Dims) (w : World) → ((h : List Entry) (line : List ℕ) (o : Outcome) → P h → P (next_of s w h line o)) → (h : List Entry) (ls : List (List ℕ)) (os : List Outcome) → P h → P (behind s w h ls os)
behind_keeps P s w step h [] os p = p
behind_keeps P s w step h (line ∷ rest) [] p = by_test (is_too_long line)
    (λ long. subst (λ (rs : List Room). P (first_history rs)) (sym (rooms_long (manner s) (alone w h) line rest [] long)) (behind_keeps P s w step h rest [] p))
    (λ short. rw short p)
behind_keeps P s w step h (line ∷ rest) (o ∷ os) p = by_test (is_too_long line)
    (λ long. subst (λ (rs : List Room). P (first_history rs)) (sym (rooms_long (manner s) (alone w h) line rest (o ∷ os) long)) (behind_keeps P s w step h rest (o ∷ os) p))
    (λ short. subst (λ (rs : List Room). P (first_history rs)) (sym (line_one s w h line rest o os short)) (behind_keeps P s w step (next_of s w h line o) rest os (step h line o p)))

pub behind_grows : (s : Dims) (w : World) (h : List Entry) (ls : List (List ℕ)) (os : List Outcome) → Extends h (behind s w h ls os)
behind_grows s w h ls os = behind_keeps (λ (k : List Entry). Extends h k) s w (λ k line o more. extends_trans h k (next_of s w k line o) more (ask_grows s w.shown k (ask_of line) o)) h ls os (extends_refl h)

behind_stays : (s : Dims) (w : World) (h : List Entry) (ls : List (List ℕ)) (os : List Outcome) → IsAdmissible w.shown h → IsAdmissible w.shown (behind s w h ls os)
behind_stays s w h ls os adm = behind_keeps (IsAdmissible w.shown) s w (λ k line o adm. ask_stays s w.shown k (ask_of line) o adm) h ls os adm

extends_by : (a a' b b' : List Room) → a ≡ a' → b ≡ b' → Extends (first_history a') (first_history b') → Extends (first_history a) (first_history b)
extends_by a a' b b' e f x = subst (λ (rs : List Room). Extends (first_history rs) (first_history b)) (sym e) (subst (λ (rs : List Room). Extends (first_history a') (first_history rs)) (sym f) x)

-- the history behind more lines has that behind the first of them
pub behind_more : (s : Dims) (w : World) (h : List Entry) (first more : List (List ℕ)) (os : List Outcome) → Extends (first_history (rooms_behind (manner s) (alone w h) first os)) (first_history (rooms_behind (manner s) (alone w h) (first ++ more) os))
behind_more s w h [] more os = behind_grows s w h more os
behind_more s w h (line ∷ rest) more [] = by_test (is_too_long line)
    (λ long. extends_by (rooms_behind (manner s) (alone w h) (line ∷ rest) []) (rooms_behind (manner s) (alone w h) rest []) (rooms_behind (manner s) (alone w h) (line ∷ rest ++ more) []) (rooms_behind (manner s) (alone w h) (rest ++ more) [])
    (rooms_long (manner s) (alone w h) line rest [] long) (rooms_long (manner s) (alone w h) line (rest ++ more) [] long) (behind_more s w h rest more []))
    (λ short. rw short (extends_refl h))
behind_more s w h (line ∷ rest) more (o ∷ os) = by_test (is_too_long line)
    (λ long. extends_by (rooms_behind (manner s) (alone w h) (line ∷ rest) (o ∷ os)) (rooms_behind (manner s) (alone w h) rest (o ∷ os)) (rooms_behind (manner s) (alone w h) (line ∷ rest ++ more) (o ∷ os)) (rooms_behind (manner s) (alone w h) (rest ++ more) (o ∷ os))
    (rooms_long (manner s) (alone w h) line rest (o ∷ os) long) (rooms_long (manner s) (alone w h) line (rest ++ more) (o ∷ os) long) (behind_more s w h rest more (o ∷ os)))
    (λ short.
    let next = next_of s w h line o in
    extends_by (rooms_behind (manner s) (alone w h) (line ∷ rest) (o ∷ os)) (rooms_behind (manner s) (alone w next) rest os) (rooms_behind (manner s) (alone w h) (line ∷ rest ++ more) (o ∷ os)) (rooms_behind (manner s) (alone w next) (rest ++ more) os)
    (line_one s w h line rest o os short) (line_one s w h line (rest ++ more) o os short) (behind_more s w next rest more os))

-- ---- what is said to them

said_open : (s : Dims) (w : World) (h last : List Entry) (ls : List (List ℕ)) (os : List Outcome) (m : ℕ) (t : Cell) → IsWorld w → Reads s w.shown → IsAdmissible w.shown last → Extends (behind s w h ls os) last → IsIn t (protected w.shown m)
    → said (manner s) (alone (twin w m (changes w.shown last m t)) h) ls os ≡ said (manner s) (alone w h) ls os
said_open s w h last [] os m t ok reads adm ext within = refl
said_open s w h last (line ∷ rest) [] m t ok reads adm ext within = by_test (is_too_long line)
    (λ long. let v = twin w m (changes w.shown last m t) in
    said_long (manner s) (alone v h) line rest [] long
    ∙ ap (λ (text : List ℕ). too_large ++ text) (said_open s w h last rest [] m t ok reads adm (subst (λ (rs : List Room). Extends (first_history rs) last) (rooms_long (manner s) (alone w h) line rest [] long) ext) within)
    ∙ sym (said_long (manner s) (alone w h) line rest [] long))
    (λ short. rw short refl)
said_open s w h last (line ∷ rest) (o ∷ os) m t ok reads adm ext within = by_test (is_too_long line)
    (λ long. let v = twin w m (changes w.shown last m t) in
    said_long (manner s) (alone v h) line rest (o ∷ os) long
    ∙ ap (λ (text : List ℕ). too_large ++ text) (said_open s w h last rest (o ∷ os) m t ok reads adm (subst (λ (rs : List Room). Extends (first_history rs) last) (rooms_long (manner s) (alone w h) line rest (o ∷ os) long) ext) within)
    ∙ sym (said_long (manner s) (alone w h) line rest (o ∷ os) long))
    (λ short.
    let v = twin w m (changes w.shown last m t) in
    let next = next_of s w h line o in
    let there : Extends (behind s w next rest os) last = subst (λ (rs : List Room). Extends (first_history rs) last) (line_one s w h line rest o os short) ext in
    let behind_it : Extends next last = extends_trans next (behind s w next rest os) last (behind_grows s w next rest os) there in
    let first = room_open s w h last (ask_of line) o m t ok reads adm behind_it within in
    let more = ap (λ (rs : List Room). said (manner s) rs rest os) (next_alone s v h (ask_of line) o)
    ∙ said_open s w next last rest os m t ok reads adm there within
    ∙ sym (ap (λ (rs : List Room). said (manner s) rs rest os) (next_alone s w h (ask_of line) o)) in
    said_one (manner s) (alone v h) line rest o os short
    ∙ ap (λ r. reply_text r ++ said (manner s) ((manner s).next (alone v h) (ask_of line) o) rest os) first
    ∙ ap (λ (text : List ℕ). reply_text ((manner s).reply (alone w h) (ask_of line) o) ++ text) more
    ∙ sym (said_one (manner s) (alone w h) line rest o os short))

-- ---- the history behind the lines that were answered

-- the history behind the lines up to the last of the stated asks
abbrev history_behind : Dims → World → List Entry → ℕ → List (List ℕ) → List Outcome → List Entry
history_behind s w h stated ls os = behind s w h (up_to_asks stated ls) os

-- no outcome is left, so the rooms stay
rooms_none : (m : Manner) (rooms : List Room) (ls : List (List ℕ)) → rooms_behind m rooms ls [] ≡ rooms
rooms_none m rooms [] = refl
rooms_none m rooms (line ∷ rest) = by_test (is_too_long line)
    (λ long. rooms_long m rooms line rest [] long ∙ rooms_none m rooms rest)
    (λ short. rw short refl)

-- behind those that were answered no line has an outcome
behind_first : (s : Dims) (w : World) (h : List Entry) (ls first more : List (List ℕ)) (os : List Outcome) → ls ≡ first ++ more → length os ≡ asks_in first → behind s w h ls os ≡ behind s w h first os
behind_first s w h ls first more os split matched = ap first_history (
    ap (λ (l : List (List ℕ)). rooms_behind (manner s) (alone w h) l os) split
    ∙ ap (λ (o : List Outcome). rooms_behind (manner s) (alone w h) (first ++ more) o) (sym (append-nil os))
    ∙ rooms_append (manner s) first more [] (alone w h) os matched
    ∙ rooms_none (manner s) (rooms_behind (manner s) (alone w h) first os) more)

-- so many asks are left behind a line
abbrev left_behind : List ℕ → ℕ → ℕ
left_behind line n = if is_too_long line then suc n else n

up_to_split : (n : ℕ) (ls : List (List ℕ)) → (rest : List (List ℕ)) × (ls ≡ up_to_asks n ls ++ rest)
up_to_split zero ls = (ls, refl)
up_to_split (suc n) [] = ([], refl)
up_to_split (suc n) (line ∷ more) = let x = up_to_split (left_behind line n) more in (x.0, ap (λ (l : List (List ℕ)). line ∷ l) x.1)

stated_grows : (s : Dims) (w : World) (h : List Entry) (stated : ℕ) (ls : List (List ℕ)) (os : List Outcome) → Extends (history_behind s w h stated ls os) (behind s w h ls os)
stated_grows s w h stated ls os =
    let x = up_to_split stated ls in
    subst (λ (l : List (List ℕ)). Extends (history_behind s w h stated ls os) (behind s w h l os)) (sym x.1) (behind_more s w h (up_to_asks stated ls) x.0 os)

-- it goes on from the history behind all lines, and from that behind the ended ones
all_grow : (s : Dims) (w : World) (h : List Entry) (stated : ℕ) (text : List ℕ) (first more : List (List ℕ)) (os : List Outcome) → lines text ≡ first ++ more → length os ≡ asks_in first
    → Extends (history_behind s w h stated (lines text) os) (behind s w h first os)
all_grow s w h stated text first more os split matched = subst (λ (k : List Entry). Extends (history_behind s w h stated (lines text) os) k) (behind_first s w h (lines text) first more os split matched) (stated_grows s w h stated (lines text) os)

ended_grow : (s : Dims) (w : World) (h : List Entry) (stated : ℕ) (text : List ℕ) (first more : List (List ℕ)) (os : List Outcome) → lines text ≡ first ++ more → length os ≡ asks_in first
    → Extends (history_behind s w h stated (ended_lines text) os) (behind s w h first os)
ended_grow s w h stated text first more os split matched =
    let some = behind_more s w h (ended_lines text) (last_lines (open_line text)) os in
    let all = subst (λ (l : List (List ℕ)). Extends (behind s w h (ended_lines text) os) (behind s w h l os)) (sym (lines_are text)) some in
    extends_trans (history_behind s w h stated (ended_lines text) os) (behind s w h (ended_lines text) os) (behind s w h first os) (stated_grows s w h stated (ended_lines text) os)
    (subst (λ (k : List Entry). Extends (behind s w h (ended_lines text) os) k) (behind_first s w h (lines text) first more os split matched) all)

-- ---- what was written

talk_open : (s : Dims) (w : World) (h last : List Entry) (ls : List (List ℕ)) (os : List Outcome) (stated m : ℕ) (t : Cell) → IsWorld w → Reads s w.shown → IsAdmissible w.shown last → Extends (history_behind s w h stated ls os) last → IsIn t (protected w.shown m)
    → talk (manner s) (alone (twin_by w last m t) h) ls os stated ≡ talk (manner s) (alone w h) ls os stated
talk_open s w h last ls os stated m t ok reads adm ext within = said_open s w h last (up_to_asks stated ls) os m t ok reads adm ext within

says_open : (s : Dims) (w : World) (h last : List Entry) (ending : Ending) (stated : ℕ) (os : List Outcome) (text : List ℕ) (old new : Option (List ℕ)) (m : ℕ) (t : Cell) → IsWorld w → Reads s w.shown → IsAdmissible w.shown last
    → Extends (history_behind s w h stated (lines text) os) last → Extends (history_behind s w h stated (ended_lines text) os) last → IsIn t (protected w.shown m)
    → Says ending (manner s) (alone w h) stated os text old new → Says ending (manner s) (alone (twin_by w last m t) h) stated os text old new
says_open s w h last Ended stated os text old new m t ok reads adm all ended within says = (says.0, says.1, says.2, subst (Appends old new) (sym (talk_open s w h last (lines text) os stated m t ok reads adm all within)) says.3)
says_open s w h last InputFailed stated os text old new m t ok reads adm all ended within says = (says.0, says.1, says.2, subst (Appends old new) (sym (talk_open s w h last (ended_lines text) os stated m t ok reads adm ended within)) says.3)
says_open s w h last OutputFailed stated os text old new m t ok reads adm all ended within says = subst (AppendsPrefix old new) (sym (talk_open s w h last (lines text) os stated m t ok reads adm all within)) says
says_open s w h last NoMemory stated os text old new m t ok reads adm all ended within says = absurd says
says_open s w h last Spent stated os text old new m t ok reads adm all ended within (inl some) = inl (some.0, some.1, subst (Appends old new) (sym (talk_open s w h last (lines text) os stated m t ok reads adm all within)) some.2)
says_open s w h last Spent stated os text old new m t ok reads adm all ended within (inr full) = inr (full.0, full.1, full.2, subst (Appends old new) (sym (talk_open s w h last (ended_lines text) os stated m t ok reads adm ended within)) full.3)

pub hides : {I O : Type 0} (core : Core) (policy : Policy) (h : List Entry) (talk : Talk) (input : Seen SourceState I) (out : Seen SinkState O) → IsCore core → IsPolicy core.dims policy → IsAdmissible (shown core policy) h
    → (talked : Talked (manner core.dims) (alone (world core policy) h) talk input out)
    → Hides core policy (first_history (rooms_behind (manner core.dims) (alone (world core policy) h) talked.took.first talk.outcomes)) (λ w. Says talk.ending (manner core.dims) (alone w h) talk.stated talk.outcomes talked.took.text out.before.written out.after.written)
hides core policy h talk input out is_core is_policy adm talked =
    let s = core.dims in
    let w = world core policy in
    let os = talk.outcomes in
    let ok : IsWorld w = cores_are_worlds core policy is_core is_policy.methods in
    let last = behind s w h talked.took.first os in
    record {
      here = talked.says;
      admissible = behind_stays s w h talked.took.first os adm;
      hides = λ later good ext m t within.
          let all = extends_trans (history_behind s w h talk.stated (lines talked.took.text) os) last later (all_grow s w h talk.stated talked.took.text talked.took.first talked.took.more os talked.took.split talked.matched) ext in
          let ended = extends_trans (history_behind s w h talk.stated (ended_lines talked.took.text) os) last later (ended_grow s w h talk.stated talked.took.text talked.took.first talked.took.more os talked.took.split talked.matched) ext in
          record {
            same = says_open s w h later talk.ending talk.stated os talked.took.text out.before.written out.after.written m t ok (texts_read core policy is_core is_policy) good all ended within talked.says;
            other_sum = other_sum w later m t ok good within;
          };
    }
