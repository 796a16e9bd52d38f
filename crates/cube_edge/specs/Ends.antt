-- How a connection ends: when its end goes out, and why it is let go.
use Rattle.std.specs.Prelude.{◌≡◌, ◌≢◌, ◌<◌, ◌≤◌, ◌⊎◌, ℕ, ◌+◌, ◌-◌, ◌*◌, ◌^◌, ◌==◌, ◌&&◌, not, Bool, true, false, List, [], ◌∷◌, ◌++◌, length, Some, None, slice_get}
use Rattle.std.specs.List.{list_all}
use Rattle.cube_io.specs.Causes.{Rose}
use Rattle.cube_edge.specs.declared.link.Link.{Link}
use Rattle.cube_edge.specs.declared.link.Look.{Look}
use Rattle.cube_edge.specs.declared.link.Look.TheVariants as look
use Rattle.cube_edge.specs.declared.link.Stage.TheVariants as stage
use Rattle.cube_edge.specs.declared.wire.TheConstants.{SETTLING}
use Rattle.cube_edge.specs.Links.{patience, is_late, is_there, is_open}
use Rattle.cube_edge.specs.Sockets.{SocketsState, outgoing}

-- it is closed, and nothing waits
abbrev pub is_ended : Link → Bool
is_ended link = not (is_open link.stage) && (length link.waiting == 0)

-- a step behind which the other side of connection c was told that nothing more is written just where it is closed and nothing waits, if that
-- was so before
abbrev pub EndsWell : ℕ → SocketsState → Link → SocketsState → Link → Type 0
EndsWell c old link new link' = (old.socket c).shut ≡ is_ended link → (new.socket c).shut ≡ is_ended link'

-- Since when a connection is known to be still behind a look: since nobody knows, since the time that is told, or since when it was, in the
-- same stage.
abbrev pub IsStill : Link → ℕ → Link → Type 0
IsStill link clock link' = (link'.still_since ≡ None) ⊎ ((link'.still_since ≡ Some clock) ⊎ ((link'.still_since ≡ link.still_since) × (link'.stage ≡ link.stage)))

-- It is known to be still since when it was, in the same stage, or nobody knows.
abbrev pub IsUnmoved : Link → Link → Type 0
IsUnmoved link link' = (link'.still_since ≡ None) ⊎ ((link'.still_since ≡ link.still_since) × (link'.stage ≡ link.stage))

-- Connection c is there behind a look as it was before: it is as open, and what goes out on it is the same.
pub record Stays (c : ℕ) (old : SocketsState) (link : Link) (new : SocketsState) (link' : Link) : Type 0 where
  pub there : is_there link'.stage ≡ is_there link.stage
  pub opens : is_open link'.stage ≡ is_open link.stage
  pub goes : outgoing c new link'.waiting ≡ outgoing c old link.waiting
  pub comes : length (old.socket c).taken ≤ length (new.socket c).taken
  pub still : IsStill link new.clock link'

-- A connection that is at its end: its socket is, or it is closed and all that waited was given, or bytes came that it has no memory for.
abbrev pub Ended : ℕ → SocketsState → Link → SocketsState → Type 0
Ended c old link new =
    ((new.socket c).gone ≡ true)
    ⊎ (((is_open link.stage ≡ false) × ((new.socket c).given ≡ (old.socket c).given ++ link.waiting))
    ⊎ (length (old.socket c).taken < length (new.socket c).taken))

-- a connection is let go: it is at its end, or it was still for as long as it may be
abbrev pub LetGo : ℕ → ℕ → SocketsState → Link → SocketsState → Type 0
LetGo c idle old link new = Ended c old link new ⊎ (is_late link.still_since new.clock (patience link.stage idle) ≡ true)

-- nothing more was given to connection c, and it is as it was whether more is written
pub record GaveNothing (c : ℕ) (old new : SocketsState) : Type 0 where
  pub given : (new.socket c).given ≡ (old.socket c).given
  pub shut : (new.socket c).shut ≡ (old.socket c).shut
  pub comes : length (old.socket c).taken ≤ length (new.socket c).taken

-- a read of connection c finds its socket at an end where it is no more, or something came
abbrev pub FetchCause : ℕ → Look → SocketsState → SocketsState → Type 0
FetchCause c (look.Piece n) old new = Unit {0}
FetchCause c look.Quiet old new = Unit {0}
FetchCause c look.Gone old new = ((new.socket c).gone ≡ true) ⊎ (length (old.socket c).taken < length (new.socket c).taken)

abbrev pub Reads : ℕ → Look → SocketsState → SocketsState → Type 0
Reads c look old new = GaveNothing c old new × FetchCause c look old new

-- a closed connection is no more only where nothing waits
abbrev pub DropCause : Look → List ℕ → Type 0
DropCause (look.Piece n) waiting = Unit {0}
DropCause look.Quiet waiting = Unit {0}
DropCause look.Gone waiting = waiting ≡ []

abbrev pub Drops : ℕ → Look → SocketsState → List ℕ → SocketsState → Type 0
Drops c look old waiting new = GaveNothing c old new × DropCause look waiting

-- a look at connection c leaves it there, or finds it at its end
abbrev pub Sees : ℕ → Look → SocketsState → Link → SocketsState → Link → Type 0
Sees c (look.Piece n) old link new link' = Stays c old link new link'
Sees c look.Quiet old link new link' = Stays c old link new link'
Sees c look.Gone old link new link' = Ended c old link new

-- a turn of connection c leaves it there, or lets it go for a cause
abbrev pub Finds : ℕ → ℕ → Look → SocketsState → Link → SocketsState → Link → Type 0
Finds c idle (look.Piece n) old link new link' = Stays c old link new link'
Finds c idle look.Quiet old link new link' = Stays c old link new link'
Finds c idle look.Gone old link new link' = (link'.stage ≡ stage.Free) × LetGo c idle old link new

-- how connection c fares: it stays, or it is let go for a cause and its number is free
abbrev pub Fares : ℕ → ℕ → SocketsState → Link → SocketsState → Link → Type 0
Fares c idle old link new link' = Stays c old link new link' ⊎ ((link'.stage ≡ stage.Free) × LetGo c idle old link new)

-- each of them fares so
abbrev pub LetsGo : ℕ → SocketsState → List Link → SocketsState → List Link → Type 0
LetsGo idle old links new links' = (c : ℕ) (link link' : Link) → slice_get links c ≡ Some link → slice_get links' c ≡ Some link' → Fares c idle old link new link'

-- each connection that was there is there
abbrev pub AreThere : List Link → List Link → Type 0
AreThere links links' = (c : ℕ) (link link' : Link) → slice_get links c ≡ Some link → slice_get links' c ≡ Some link' → is_there link'.stage ≡ is_there link.stage

-- connection c is closed and is there still, and the others are as they were
pub record Closes (c : ℕ) (links links' : List Link) : Type 0 where
  pub there : AreThere links links'
  pub closed : (link : Link) → slice_get links' c ≡ Some link → is_open link.stage ≡ false
  pub rest : (d : ℕ) → d ≢ c → slice_get links' d ≡ slice_get links d

-- none of them is open
abbrev pub NoneOpen : List Link → Type 0
NoneOpen links = (c : ℕ) (link : Link) → slice_get links c ≡ Some link → is_open link.stage ≡ false

-- none of them is there
abbrev pub are_free : List Link → Bool
are_free links = list_all (λ link. not (is_there link.stage)) links

-- Why a wire that was closed at some time waits no more for its last replies: two seconds went by since, or its sockets failed, or its
-- watch has no space for what may come, or it was waited as often as can be counted.
abbrev pub StopsWaiting : ℕ → ℕ → SocketsState → ℕ → Type 0
StopsWaiting since faults new capacity = (since + SETTLING ≤ new.clock) ⊎ (Rose faults new.faults ⊎ ((capacity ≤ 4096) ⊎ (2 ^ 64 - 1 ≤ new.waits)))

-- no connection is there, or it is not waited any more
abbrev pub Settles : ℕ → ℕ → SocketsState → List Link → ℕ → Type 0
Settles since faults new links capacity = (are_free links ≡ true) ⊎ StopsWaiting since faults new capacity

-- the milliseconds that a connection may be still, by the last address that was heard, or by these seconds where none was
abbrev pub idle_of : ℕ → List (List ℕ × ℕ) → ℕ
idle_of seconds [] = seconds * 1000
idle_of seconds (heard ∷ more) = idle_of heard.1 more
