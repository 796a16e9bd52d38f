-- What a deed does to the log of a file, and to what stands behind the paths of two.
use Rattle.std.proofs.Common.{◌≡◌, ◌≢◌, inr, ℕ, Bool, true, false, List, [], ◌∷◌, ◌++◌, take, nat_lt, length, refl, sym, ◌∙◌, ap, subst, append-nil, rules}
use Rattle.std.specs.Str.{bytes_eq}
use Rattle.std.proofs.lemmas.Slice.Eq.{bytes_eq-Decides}
use Rattle.cube_io.specs.States.{State, Log, Appended, Cut, Synced, Gained, shortened, shortened_if, settled}
use Rattle.cube_edge.specs.Disks.{IsEither, no_log}
use Rattle.trial_worlds.specs.declared.mem_log.Deed.{Deed}
use Rattle.trial_worlds.specs.declared.mem_log.Deed.TheVariants as deed
use Rattle.trial_worlds.specs.Deeds.{log_of, log_after, stepped, now_after, settles}
use Rattle.trial_worlds.specs.Pairs.{behind}

-- ---- one file

after_more : (l : Log) (ds : List Deed) (d : Deed) → log_after l (ds ++ d ∷ []) ≡ stepped (log_after l ds) d
after_more l [] d = refl
after_more l (e ∷ ds) d = after_more (stepped l e) ds d

pub more : (ds : List Deed) (d : Deed) → log_of (ds ++ d ∷ []) ≡ stepped (log_of ds) d
more ds d = after_more no_log ds d

now_cut : (s : State) (len : ℕ) → (shortened s len).now ≡ take len s.now
now_cut s len = by (nat_lt len (length s.safe))
  where
    by : (b : Bool) → (shortened_if b s len).now ≡ take len s.now
    by true = refl
    by false = refl

now_stepped : (l : Log) (d : Deed) → (stepped l d).state.now ≡ now_after l.state.now d
now_stepped l (deed.Put piece) = refl
now_stepped l (deed.Cut len) = now_cut l.state len
now_stepped l deed.Sync = refl
now_stepped l (deed.Become bytes) = refl

settled_stepped : (l : Log) (d : Deed) → settles d ≡ true → (stepped l d).state ≡ settled (now_after l.state.now d)
settled_stepped l (deed.Put piece) is = cc
settled_stepped l (deed.Cut len) is = cc
settled_stepped l deed.Sync is = refl
settled_stepped l (deed.Become bytes) is = refl

pub now_more : (ds : List Deed) (d : Deed) (now after : List ℕ) → (log_of ds).state.now ≡ now → after ≡ now_after now d → (log_of (ds ++ d ∷ [])).state.now ≡ after
now_more ds d now after was is = ap (λ (l : Log). l.state.now) (more ds d) ∙ now_stepped (log_of ds) d ∙ ap (λ (n : List ℕ). now_after n d) was ∙ sym is

pub settled_more : (ds : List Deed) (d : Deed) (now after : List ℕ) → (log_of ds).state.now ≡ now → after ≡ now_after now d → settles d ≡ true → (log_of (ds ++ d ∷ [])).state ≡ settled after
settled_more ds d now after was is clean = ap (λ (l : Log). l.state) (more ds d) ∙ settled_stepped (log_of ds) d clean ∙ ap settled (ap (λ (n : List ℕ). now_after n d) was ∙ sym is)

pub put_step : (piece : List ℕ) (a b : Log) → b ≡ stepped a (deed.Put piece) → Appended piece [] a b
put_step piece a b is = subst (Appended piece [] a) (sym is) (record { parts = piece ∷ []; split = sym (append-nil (piece ++ []) ∙ append-nil piece); passed = record { trail = refl; state = refl } })

pub cut_step : (len : ℕ) (a b : Log) → b ≡ stepped a (deed.Cut len) → Cut len a b
cut_step len a b is = subst (Cut len a) (sym is) (record { states = shortened a.state len ∷ []; each = (inr (inr refl), tt); passed = record { trail = refl; state = refl } })

pub cut_none : (len : ℕ) (a b : Log) → b ≡ a → Cut len a b
cut_none len a b is = subst (Cut len a) (sym is) (record { states = []; each = tt; passed = record { trail = sym (append-nil a.trail); state = refl } })

pub sync_step : (a b : Log) → b ≡ stepped a deed.Sync → Synced a b
sync_step a b is = subst (Synced a) (sym is) (record { states = settled a.state.now ∷ []; each = (inr refl, tt); passed = record { trail = refl; state = refl } })

pub sync_none : (a b : Log) → b ≡ a → Synced a b
sync_none a b is = subst (Synced a) (sym is) (record { states = []; each = tt; passed = record { trail = sym (append-nil a.trail); state = refl } })

pub become_step : (bytes : List ℕ) (s : State) (a b : Log) → s ≡ settled bytes → b ≡ stepped a (deed.Become bytes) → Gained (IsEither a.state s) a b
become_step bytes s a b settles is = subst (Gained (IsEither a.state s) a) (sym is) (record { states = settled bytes ∷ []; trail = refl; each = (inr (sym settles), tt) })

-- a front of the piece, but for what is unsaid, is the piece, but for that and the rest
pub front_appended : (piece front rest : List ℕ) (a b : Log) → piece ≡ front ++ rest → Appended front [] a b → Appended piece rest a b
front_appended piece front rest a b is f = record { parts = f.parts; split = is ∙ ap (λ (l : List ℕ). l ++ rest) (f.split ∙ append-nil _); passed = f.passed }

pub none_appended : (piece : List ℕ) (a b : Log) → b ≡ a → Appended piece piece a b
none_appended piece a b is = subst (Appended piece piece a) (sym is) (record { parts = []; split = refl; passed = record { trail = sym (append-nil a.trail); state = refl } })

-- ---- two files

pub at_name : (name beside path : List ℕ) (a b : Log) → path ≡ name → behind name beside a b path ≡ a
at_name name beside path a b is = let same : bytes_eq path name ≡ true = search (rules, bytes_eq-Decides) in rw same refl

pub at_beside : (name beside path : List ℕ) (a b : Log) → path ≢ name → path ≡ beside → behind name beside a b path ≡ b
at_beside name beside path a b other is =
    let no : bytes_eq path name ≡ false = search (rules, bytes_eq-Decides) in
    let same : bytes_eq path beside ≡ true = search (rules, bytes_eq-Decides) in
    rw (no, same) refl

-- the file of the name changes, and no other path
pub name_alone : (name beside path : List ℕ) (a a' b : Log) → path ≡ name → (other : List ℕ) → other ≢ path → behind name beside a' b other ≡ behind name beside a b other
name_alone name beside path a a' b is other differs = let no : bytes_eq other name ≡ false = search (rules, bytes_eq-Decides) in rw no refl

pub beside_alone : (name beside path : List ℕ) (a b b' : Log) → path ≡ beside → (other : List ℕ) → other ≢ path → behind name beside a b' other ≡ behind name beside a b other
beside_alone name beside path a b b' is other differs = let no : bytes_eq other beside ≡ false = search (rules, bytes_eq-Decides) in rw no refl

-- The file beside, all of it on the disk, takes the place of the other: what the states are, and that no other was passed.
pub record Replaced (comes there new : Log) : Type 0 where
  pub passes : Gained (IsEither there.state comes.state) there new
  pub done : new.state ≡ comes.state

pub replaced : (name beside from to bytes : List ℕ) (file new other : List Deed) (emptied : Log) → from ≢ name → from ≡ beside → to ≡ name → (log_of other).state ≡ settled bytes → new ≡ file ++ deed.Become bytes ∷ []
    → Replaced (behind name beside (log_of file) (log_of other) from) (behind name beside (log_of file) (log_of other) to) (behind name beside (log_of new) emptied to)
replaced name beside from to bytes file new other emptied differs is_beside is_name clean is =
    let comes : (behind name beside (log_of file) (log_of other) from).state ≡ settled bytes = ap (λ (l : Log). l.state) (at_beside name beside from (log_of file) (log_of other) differs is_beside) ∙ clean in
    let step : behind name beside (log_of new) emptied to ≡ stepped (behind name beside (log_of file) (log_of other) to) (deed.Become bytes) =
    at_name name beside to (log_of new) emptied is_name ∙ ap log_of is ∙ more file (deed.Become bytes) ∙ ap (λ (l : Log). stepped l (deed.Become bytes)) (sym (at_name name beside to (log_of file) (log_of other) is_name)) in
    record {
      passes = become_step bytes (behind name beside (log_of file) (log_of other) from).state (behind name beside (log_of file) (log_of other) to) (behind name beside (log_of new) emptied to) comes step;
      done = ap (λ (l : Log). l.state) step ∙ sym comes;
    }
