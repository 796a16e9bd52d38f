-- Connections stay where they are, or are let go for a cause.
use Rattle.std.proofs.Common.{◌≡◌, ◌≢◌, ◌<◌, ◌≤◌, inl, inr, ℕ, ◌+◌, ◌==◌, Bool, true, false, List, ◌++◌, length, get_or, refl, sym, ◌∙◌, ap, subst, arith, if◌then◌else◌, length-set, get_or-set_same, get_or-set_other}
use Rattle.std.proofs.Math.ListN.{set}
use Rattle.std.specs.Prelude.{Option, Some, IfSome, nat_lt, slice_get, slice_set}
use Rattle.std.proofs.lemmas.Bool.Decides.{nat_tests}
use Rattle.std.proofs.lemmas.Option.{slice_get_within, slice_get-get_or, get_or_from_slice_get, slice_get_past}
use Rattle.cube_edge.specs.declared.link.Link.{Link}
use Rattle.cube_edge.specs.declared.link.Stage.{Stage}
use Rattle.cube_edge.specs.declared.link.Stage.TheVariants as stage
use Rattle.cube_edge.specs.Ends.{IsStill, IsUnmoved, Stays, Ended, Fares, LetsGo, AreThere, Closes, NoneOpen}
use Rattle.cube_edge.specs.Links.{is_there, is_open, is_late, patience, closed_behind}
use Rattle.cube_edge.specs.Sockets.{SocketState, SocketsState, SameTime, Elsewhere, outgoing}

-- ---- what a step at one place leaves

-- the link at another place is the same
pub set_elsewhere : (links : List Link) (c d : ℕ) (new : Link) → d ≢ c → slice_get (slice_set links c new) d ≡ slice_get links d
set_elsewhere links c d new differs = by (nat_lt d (length links)) refl
  where
    by : (b : Bool) → nat_lt d (length links) ≡ b → slice_get (set links c new) d ≡ slice_get links d
    by true e =
        let within : d < length links = grind (arith, nat_tests) in
        slice_get-get_or (set links c new) d new (subst (λ (n : ℕ). d < n) (sym (length-set links c new)) within) ∙ ap (λ (l : Link). let o = Some l in o) (get_or-set_other links c d new new differs) ∙ sym (slice_get-get_or links d new within)
    by false e =
        let past : length links ≤ d = grind (arith, nat_tests) in
        slice_get_past (set links c new) d (subst (λ (n : ℕ). n ≤ d) (sym (length-set links c new)) past) ∙ sym (slice_get_past links d past)

-- that at the place itself
set_here : (links : List Link) (c : ℕ) (new link : Link) → c < length links → slice_get (slice_set links c new) c ≡ Some link → link ≡ new
set_here links c new link few at = sym (get_or_from_slice_get (set links c new) c link link at) ∙ get_or-set_same links c new link few

was_here : (links : List Link) (c : ℕ) (old link : Link) → c < length links → old ≡ get_or links c old → slice_get links c ≡ Some link → link ≡ old
was_here links c old link few is at = sym (get_or_from_slice_get links c link old at) ∙ sym is

-- ---- one connection

-- nothing happens to it
pub stays_same : (c : ℕ) (s s' : SocketsState) (link : Link) → s'.socket c ≡ s.socket c → Stays c s link s' link
stays_same c s s' link same = record {
  there = refl;
  opens = refl;
  goes = ap (λ (x : SocketState). x.given ++ link.waiting) same;
  comes = let e : length (s'.socket c).taken ≡ length (s.socket c).taken = ap (λ (x : SocketState). length x.taken) same in omega (arith, e);
  still = inr (inr (refl, refl));
}

-- nothing happened to it before
stays_from : (c : ℕ) (s s' s'' : SocketsState) (link link' : Link) → s'.socket c ≡ s.socket c → Stays c s' link s'' link' → Stays c s link s'' link'
stays_from c s s' s'' link link' same stays = record {
  there = stays.there;
  opens = stays.opens;
  goes = stays.goes ∙ ap (λ (x : SocketState). x.given ++ link.waiting) same;
  comes = let e : length (s'.socket c).taken ≡ length (s.socket c).taken = ap (λ (x : SocketState). length x.taken) same in omega (arith, e, stays.comes);
  still = stays.still;
}

ended_from : (c : ℕ) (s s' s'' : SocketsState) (link : Link) → s'.socket c ≡ s.socket c → Ended c s' link s'' → Ended c s link s''
ended_from c s s' s'' link same (inl gone) = inl gone
ended_from c s s' s'' link same (inr (inl given)) = inr (inl (given.0, given.1 ∙ ap (λ (x : SocketState). x.given ++ link.waiting) same))
ended_from c s s' s'' link same (inr (inr more)) = inr (inr (let e : length (s'.socket c).taken ≡ length (s.socket c).taken = ap (λ (x : SocketState). length x.taken) same in omega (arith, e, more)))

go_from : (c idle : ℕ) (s s' s'' : SocketsState) (link link' : Link) → s'.socket c ≡ s.socket c → Fares c idle s' link s'' link' → Fares c idle s link s'' link'
go_from c idle s s' s'' link link' same (inl stays) = inl (stays_from c s s' s'' link link' same stays)
go_from c idle s s' s'' link link' same (inr (free, inl ended)) = inr (free, inl (ended_from c s s' s'' link same ended))
go_from c idle s s' s'' link link' same (inr (free, inr late)) = inr (free, inr late)

-- nothing happens to it behind that
stays_to : (c : ℕ) (s s' s'' : SocketsState) (link link' : Link) → s''.socket c ≡ s'.socket c → s''.clock ≡ s'.clock → Stays c s link s' link' → Stays c s link s'' link'
stays_to c s s' s'' link link' same clock stays = record {
  there = stays.there;
  opens = stays.opens;
  goes = ap (λ (x : SocketState). x.given ++ link'.waiting) same ∙ stays.goes;
  comes = let e : length (s''.socket c).taken ≡ length (s'.socket c).taken = ap (λ (x : SocketState). length x.taken) same in omega (arith, e, stays.comes);
  still = subst (λ (n : ℕ). IsStill link n link') (sym clock) stays.still;
}

ended_to : (c : ℕ) (s s' s'' : SocketsState) (link : Link) → s''.socket c ≡ s'.socket c → Ended c s link s' → Ended c s link s''
ended_to c s s' s'' link same (inl gone) = inl (ap (λ (x : SocketState). x.gone) same ∙ gone)
ended_to c s s' s'' link same (inr (inl given)) = inr (inl (given.0, ap (λ (x : SocketState). x.given) same ∙ given.1))
ended_to c s s' s'' link same (inr (inr more)) = inr (inr (let e : length (s''.socket c).taken ≡ length (s'.socket c).taken = ap (λ (x : SocketState). length x.taken) same in omega (arith, e, more)))

go_to : (c idle : ℕ) (s s' s'' : SocketsState) (link link' : Link) → s''.socket c ≡ s'.socket c → s''.clock ≡ s'.clock → Fares c idle s link s' link' → Fares c idle s link s'' link'
go_to c idle s s' s'' link link' same clock (inl stays) = inl (stays_to c s s' s'' link link' same clock stays)
go_to c idle s s' s'' link link' same clock (inr (free, inl ended)) = inr (free, inl (ended_to c s s' s'' link same ended))
go_to c idle s s' s'' link link' same clock (inr (free, inr late)) = inr (free, inr (ap (λ (n : ℕ). is_late link.still_since n (patience link.stage idle)) clock ∙ late))

-- what waits was pushed out
pub stays_flushed : (c : ℕ) (s s' : SocketsState) (link link' : Link) → is_there link'.stage ≡ is_there link.stage → is_open link'.stage ≡ is_open link.stage → outgoing c s' link'.waiting ≡ outgoing c s link.waiting
    → (s'.socket c).taken ≡ (s.socket c).taken → IsUnmoved link link' → Stays c s link s' link'
stays_flushed c s s' link link' there opens goes taken still = record {
  there = there;
  opens = opens;
  goes = goes;
  comes = let e : length (s'.socket c).taken ≡ length (s.socket c).taken = ap (λ (l : List ℕ). length l) taken in omega (arith, e);
  still = unmoved still;
}
  where
    unmoved : IsUnmoved link link' → IsStill link s'.clock link'
    unmoved (inl none) = inl none
    unmoved (inr same) = inr (inr same)

-- ---- all of them

-- a step at one place
pub lets_at : (c idle : ℕ) (s s' : SocketsState) (links : List Link) (old new : Link) → c < length links → old ≡ get_or links c old → Elsewhere c s s' → Fares c idle s old s' new → LetsGo idle s links s' (slice_set links c new)
lets_at c idle s s' links old new few is elsewhere mine d link link' at at' = by (c == d) refl
  where
    same : c ≡ d → Fares d idle s link s' link'
    same e =
        let first : link ≡ old = was_here links c old link few is (subst (λ (n : ℕ). slice_get links n ≡ Some link) (sym e) at) in
        let last : link' ≡ new = set_here links c new link' few (subst (λ (n : ℕ). slice_get (slice_set links c new) n ≡ Some link') (sym e) at') in
        subst (λ (n : ℕ). Fares n idle s link s' link') e (subst (λ (l : Link). Fares c idle s l s' link') (sym first) (subst (λ (l : Link). Fares c idle s old s' l) (sym last) mine))

    other : d ≢ c → Fares d idle s link s' link'
    other differs =
        let kept : link ≡ link' = one_link (sym at ∙ sym (set_elsewhere links c d new differs) ∙ at') in
        inl (subst (λ (l : Link). Stays d s link s' l) kept (stays_same d s s' link (elsewhere d differs)))
      where
        one_link : {a b : Link} → Some a ≡ Some b → a ≡ b
        one_link e = cc

    by : (b : Bool) → (c == d) ≡ b → Fares d idle s link s' link'
    by true e = same (grind (arith, nat_tests))
    by false e = other (λ e'. absurd (grind (arith, nat_tests)))

-- from a place on nothing has happened yet
pub record Unseen (place : ℕ) (s : SocketsState) (links : List Link) (s' : SocketsState) (links' : List Link) : Type 0 where
  pub same_links : (c : ℕ) → place ≤ c → slice_get links' c ≡ slice_get links c
  pub same_sockets : (c : ℕ) → place ≤ c → s'.socket c ≡ s.socket c

pub unseen_none : (place : ℕ) (s : SocketsState) (links : List Link) → Unseen place s links s links
unseen_none place s links = record { same_links = λ c le. refl; same_sockets = λ c le. refl }

pub lets_none : (idle : ℕ) (s : SocketsState) (links : List Link) → LetsGo idle s links s links
lets_none idle s links c link link' at at' = inl (subst (λ (l : Link). Stays c s link s l) (one_link (sym at ∙ at')) (stays_same c s s link refl))
  where
    one_link : {a b : Link} → Some a ≡ Some b → a ≡ b
    one_link e = cc

-- a step at the next place
pub unseen_then : (place : ℕ) (s s' s'' : SocketsState) (l l' l'' : List Link) → Unseen place s l s' l' → Elsewhere place s' s'' → ((d : ℕ) → d ≢ place → slice_get l'' d ≡ slice_get l' d) → Unseen (place + 1) s l s'' l''
unseen_then place s s' s'' l l' l'' unseen elsewhere rest = record {
  same_links = λ c le. rest c (λ e. absurd (omega (arith, le, e))) ∙ unseen.same_links c (omega (arith, le));
  same_sockets = λ c le. elsewhere c (λ e. absurd (omega (arith, le, e))) ∙ unseen.same_sockets c (omega (arith, le));
}

pub lets_then : (place idle : ℕ) (s s' s'' : SocketsState) (l l' l'' : List Link) → Unseen place s l s' l' → Elsewhere place s' s'' → ((d : ℕ) → d ≢ place → slice_get l'' d ≡ slice_get l' d) → SameTime s' s'' → LetsGo idle s l s' l' → LetsGo idle s' l' s'' l'' → LetsGo idle s l s'' l''
lets_then place idle s s' s'' l l' l'' unseen elsewhere rest time before here d link link' at at' = by (place == d) refl
  where
    same : place ≡ d → Fares d idle s link s'' link'
    same e =
        let le : place ≤ d = omega (arith, e) in
        go_from d idle s s' s'' link link' (unseen.same_sockets d le) (here d link link' (unseen.same_links d le ∙ at) at')

    other : d ≢ place → Fares d idle s link s'' link'
    other differs = go_to d idle s s' s'' link link' (elsewhere d differs) time.clock (before d link link' at (sym (rest d differs) ∙ at'))

    by : (b : Bool) → (place == d) ≡ b → Fares d idle s link s'' link'
    by true e = same (grind (arith, nat_tests))
    by false e = other (λ e'. absurd (grind (arith, nat_tests)))

-- ---- calls behind which each connection is there

pub there_at : (c : ℕ) (links : List Link) (old new : Link) → c < length links → old ≡ get_or links c old → is_there new.stage ≡ is_there old.stage → AreThere links (slice_set links c new)
there_at c links old new few is there d link link' at at' = by (c == d) refl
  where
    same : c ≡ d → is_there link'.stage ≡ is_there link.stage
    same e =
        let first : link ≡ old = was_here links c old link few is (subst (λ (n : ℕ). slice_get links n ≡ Some link) (sym e) at) in
        let last : link' ≡ new = set_here links c new link' few (subst (λ (n : ℕ). slice_get (slice_set links c new) n ≡ Some link') (sym e) at') in
        ap (λ (l : Link). is_there l.stage) last ∙ there ∙ ap (λ (l : Link). is_there l.stage) (sym first)

    other : d ≢ c → is_there link'.stage ≡ is_there link.stage
    other differs =
        let kept : link' ≡ link = one_link (sym at' ∙ set_elsewhere links c d new differs ∙ at) in
        ap (λ (l : Link). is_there l.stage) kept
      where
        one_link : {a b : Link} → Some a ≡ Some b → a ≡ b
        one_link e = cc

    by : (b : Bool) → (c == d) ≡ b → is_there link'.stage ≡ is_there link.stage
    by true e = same (grind (arith, nat_tests))
    by false e = other (λ e'. absurd (grind (arith, nat_tests)))

pub there_same : (links : List Link) → AreThere links links
there_same links d link link' at at' = ap (λ (l : Link). is_there l.stage) (one_link (sym at' ∙ at))
  where
    one_link : {a b : Link} → Some a ≡ Some b → a ≡ b
    one_link e = cc

pub closed_there : (old new : Link) → is_open old.stage ≡ true → new.stage ≡ closed_behind old.waiting → is_there new.stage ≡ is_there old.stage
closed_there old new opens closed = ap is_there closed ∙ by (length old.waiting == 0) ∙ sym (open_there old.stage opens)
  where
    open_there : (x : Stage) → is_open x ≡ true → is_there x ≡ true
    open_there stage.Free e = absurd (cc)
    open_there stage.Open e = refl
    open_there stage.Closing e = refl
    open_there stage.Finished e = refl

    by : (b : Bool) → is_there (if b then stage.Finished else stage.Closing) ≡ true
    by true = refl
    by false = refl

pub closed_unopen : (new : Link) (waiting : List ℕ) → new.stage ≡ closed_behind waiting → is_open new.stage ≡ false
closed_unopen new waiting closed = ap is_open closed ∙ by (length waiting == 0)
  where
    by : (b : Bool) → is_open (if b then stage.Finished else stage.Closing) ≡ false
    by true = refl
    by false = refl

-- one is closed
pub closes_at : (c : ℕ) (links : List Link) (old new : Link) → c < length links → old ≡ get_or links c old → is_there new.stage ≡ is_there old.stage → is_open new.stage ≡ false → Closes c links (slice_set links c new)
closes_at c links old new few is there ends = record {
  there = there_at c links old new few is there;
  closed = λ link at. ap (λ (l : Link). is_open l.stage) (set_here links c new link few at) ∙ ends;
  rest = λ d differs. set_elsewhere links c d new differs;
}

-- there is none with the number
pub closes_none : (c : ℕ) (links : List Link) → length links ≤ c → Closes c links links
closes_none c links past = record {
  there = there_same links;
  closed = λ link at. absurd (let within = slice_get_within links c link at in omega (arith, past, within));
  rest = λ d differs. refl;
}

-- ---- none is open

-- below a place
abbrev pub NoneBelow : ℕ → List Link → Type 0
NoneBelow place links = (c : ℕ) (link : Link) → c < place → slice_get links c ≡ Some link → is_open link.stage ≡ false

pub none_closed : (place : ℕ) (l l' : List Link) → NoneBelow place l → Closes place l l' → NoneBelow (place + 1) l'
none_closed place l l' below closes c link few at = by (c == place) refl
  where
    by : (b : Bool) → (c == place) ≡ b → is_open link.stage ≡ false
    by true e = let same : c ≡ place = grind (arith, nat_tests) in closes.closed link (subst (λ (n : ℕ). slice_get l' n ≡ Some link) same at)
    by false e =
        let differs : c ≢ place = λ e'. absurd (grind (arith, nat_tests)) in
        below c link (omega (arith, few, differs)) (sym (closes.rest c differs) ∙ at)

pub none_more : (place : ℕ) (links : List Link) → NoneBelow place links → IfSome (slice_get links place) (λ link. is_open link.stage ≡ false) → NoneBelow (place + 1) links
none_more place links below ends c link few at = by (c == place) refl
  where
    by : (b : Bool) → (c == place) ≡ b → is_open link.stage ≡ false
    by true e =
        let same : place ≡ c = grind (arith, nat_tests) in
        subst (λ (o : Option Link). IfSome o (λ l. is_open l.stage ≡ false)) (ap (λ (n : ℕ). slice_get links n) same ∙ at) ends
    by false e =
        let differs : c ≢ place = λ e'. absurd (grind (arith, nat_tests)) in
        below c link (omega (arith, few, differs)) at

pub none_open : (links : List Link) → NoneBelow (length links) links → NoneOpen links
none_open links below c link at = below c link (slice_get_within links c link at) at

pub none_same : (l l' : List Link) → l' ≡ l → NoneOpen l → NoneOpen l'
none_same l l' same none = subst (λ (x : List Link). NoneOpen x) (sym same) none

-- a look opens none
pub none_fares : (idle : ℕ) (s s' : SocketsState) (l l' : List Link) → length l ≡ length l' → LetsGo idle s l s' l' → NoneOpen l → NoneOpen l'
none_fares idle s s' l l' same lets none c link' at' =
    let within : c < length l = subst (λ (n : ℕ). c < n) (sym same) (slice_get_within l' c link' at') in
    let link = get_or l c link' in
    let at : slice_get l c ≡ Some link = slice_get-get_or l c link' within in
    by link (none c link at) (lets c link link' at at')
  where
    by : (link : Link) → is_open link.stage ≡ false → Fares c idle s link s' link' → is_open link'.stage ≡ false
    by link ends (inl stays) = stays.opens ∙ ends
    by link ends (inr gone) = ap is_open gone.0
