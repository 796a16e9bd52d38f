-- In the world with the changes for a cell the same replies come.
use Rattle.std.proofs.Common.{◌≡◌, refl, sym, ap, ◌∙◌, subst, ℕ, Bool, true, false, List, [], ◌∷◌, ◌++◌, pos, ◌+ℤ◌}
use Rattle.std.specs.Prelude.{if◌then◌else◌}
use Rattle.std.specs.declared.result.Result.{Result}
use Rattle.std.specs.declared.result.Result.TheVariants.{Ok, Err}
use Rattle.cube_model.specs.declared.ask.Ask.{Ask}
use Rattle.cube_model.specs.declared.ask.Question.{Question}
use Rattle.cube_model.specs.declared.ask.Question.TheVariants.{Query, Witness, Shape}
use Rattle.cube_model.specs.declared.cell.Cell.{Cell}
use Rattle.cube_model.specs.declared.entry.Entry.{Entry}
use Rattle.cube_model.specs.declared.outcome.Outcome.{Outcome}
use Rattle.cube_model.specs.declared.outcome.Outcome.TheVariants.{Given, JournalFault, NoMemory}
use Rattle.cube_model.specs.declared.policy.Policy.{Policy}
use Rattle.cube_model.specs.declared.reply.Reply.{Reply}
use Rattle.cube_model.specs.declared.request.Request.{Request}
use Rattle.cube_model.specs.Cores.{Core, IsCore, shown, world}
use Rattle.cube_model.specs.Cubes.{Public, World, IsWorld, IsIn, same}
use Rattle.cube_model.specs.Dims.{Dims}
use Rattle.cube_model.specs.Policies.{IsPolicy}
use Rattle.cube_model.specs.Protection.{protected}
use Rattle.cube_model.specs.Requests.{is_valid}
use Rattle.cube_model.specs.Rooms.{aim, alone}
use Rattle.cube_model.specs.Runs.{Question as question, QueryReply, Reply as Told, Reply as told, Ask as Turn, told as told_by, replied, reply_by, next_by}
use Rattle.cube_model.specs.Twins.{changes, twin, sum_of}
use Rattle.cube_model.specs.TwoWorlds.{Extends}
use Rattle.cube_model.specs.Verdicts.{verdict, IsAdmissible}
use Rattle.cube_model.proofs.Filled.{cores_are_worlds}
use Rattle.cube_model.proofs.Growth.{extends_refl, grown_grows}
use Rattle.cube_model.proofs.Worlds.{later_changes, admissible_next}
use Rattle.cube_io.specs.Seen.{StoreState}
use Rattle.cube_query.specs.Faults.{request_of}
use Rattle.cube_query.specs.declared.fault.RequestFault.{RequestFault}
use Rattle.cube_query.proofs.Valid.{read_is_valid}
use Rattle.cube_engine.specs.Books.{Book, AnswersOne}
use Rattle.cube_engine.specs.Worlds.{IsRuled, HidesCells, twin_of}
use Rattle.cube_engine.specs.Steps.{by_words, in_words, reply_where_read, history_where_read, given_reply, given_history, manner}
use Rattle.cube_engine.proofs.Alone.{sides, own_reply, other_reply}
use Rattle.cube_engine.proofs.Named.{valid_under}

-- every text of a request is one that is valid in the cube
abbrev pub Reads : Dims → Public → Type 0
Reads s g = (text : List ℕ) (r : Request) → request_of s text ≡ Ok r → is_valid g r ≡ true

pub texts_read : (c : Core) (p : Policy) → IsCore c → IsPolicy c.dims p → Reads c.dims (shown c p)
texts_read c p core policy text r read = valid_under c p r policy (read_is_valid c.dims text r core.dims read)

pub first_of : (x y : Told) (xs ys : List Told) → x ∷ xs ≡ y ∷ ys → x ≡ y
first_of x y xs ys e = cc

-- the reply to a valid request under the rules is what is said to it
pub told_of : (w : World) (h : List Entry) (r : Request) → is_valid w.shown r ≡ true → replied (question.Query r) w h ≡ told.ToQuery (told_by w r (verdict w.shown h r))
told_of w h r valid = rw valid refl

pub query_same : (x y : QueryReply) → told.ToQuery x ≡ told.ToQuery y → x ≡ y
query_same x y e = cc

-- one request
request_open : (s : Dims) (w : World) (h last : List Entry) (asked : Result Request RequestFault) (m : ℕ) (t : Cell) → IsWorld w → ((r : Request) → asked ≡ Ok r → is_valid w.shown r ≡ true) → IsAdmissible w.shown last → Extends (history_where_read w.shown h asked) last → IsIn t (protected w.shown m)
    → reply_where_read s (twin w m (changes w.shown last m t)) h asked ≡ reply_where_read s w h asked
request_open s w h last (Ok r) m t ok valid adm ext within =
    let v : World = twin w m (changes w.shown last m t) in
    let turn : Turn = record { question = question.Query r; outcome = Given } in
    let same = first_of _ _ [] [] (later_changes w h last (turn ∷ []) m t ok adm ext within).same_replies in
    ap (in_words s w.shown r) (query_same (told_by v r (verdict w.shown h r)) (told_by w r (verdict w.shown h r)) (sym (told_of v h r (valid r refl)) ∙ same ∙ told_of w h r (valid r refl)))
request_open s w h last (Err fault) m t ok valid adm ext within = refl

-- one question that is given its reply: that to another than a query looks at no value
given_open : (s : Dims) (w : World) (h last : List Entry) (q : Question) (m : ℕ) (t : Cell) → IsWorld w → Reads s w.shown → IsAdmissible w.shown last → Extends (given_history s q w.shown h) last → IsIn t (protected w.shown m) → given_reply s q (twin w m (changes w.shown last m t)) h ≡ given_reply s q w h
given_open s w h last (Query text) m t ok reads adm ext within = request_open s w h last (request_of s text) m t ok (reads text) adm ext within
given_open s w h last (Witness text) m t ok reads adm ext within = refl
given_open s w h last Shape m t ok reads adm ext within = refl

-- one question to a room, whose reply stays with the changes for any admissible history that goes on from the one behind it
pub question_open : (s : Dims) (w : World) (h last : List Entry) (q : Question) (o : Outcome) (m : ℕ) (t : Cell) → IsWorld w → Reads s w.shown → IsAdmissible w.shown last → Extends (next_by (by_words s) o q w.shown h) last → IsIn t (protected w.shown m) → reply_by (by_words s) o q (twin w m (changes w.shown last m t)) h ≡ reply_by (by_words s) o q w h
question_open s w h last q Given m t ok reads adm ext within = given_open s w h last q m t ok reads adm ext within
question_open s w h last q JournalFault m t ok reads adm ext within = refl
question_open s w h last q NoMemory m t ok reads adm ext within = refl

-- the sum of the cell
pub other_sum : (w : World) (last : List Entry) (m : ℕ) (t : Cell) → IsWorld w → IsAdmissible w.shown last → IsIn t (protected w.shown m) → sum_of (twin w m (changes w.shown last m t)) m t ≡ sum_of w m t +ℤ pos 1
other_sum w last m t ok adm within = (later_changes w last last [] m t ok adm (extends_refl last) within).other_sum

-- ---- one ask of the one room with the empty name

-- the history behind it
abbrev pub behind_ask : Dims → Public → List Entry → Ask → Outcome → List Entry
behind_ask s g h a o = if same [] (aim a.group) then next_by (by_words s) o a.question g h else h

pub next_alone : (s : Dims) (w : World) (h : List Entry) (a : Ask) (o : Outcome) → (manner s).next (alone w h) a o ≡ alone w (behind_ask s w.shown h a o)
next_alone s w h a o = ap (λ (b : Bool). alone w (if b then next_by (by_words s) o a.question w.shown h else h)) (sides (aim a.group))

pub room_open : (s : Dims) (w : World) (h last : List Entry) (a : Ask) (o : Outcome) (m : ℕ) (t : Cell) → IsWorld w → Reads s w.shown → IsAdmissible w.shown last → Extends (behind_ask s w.shown h a o) last → IsIn t (protected w.shown m)
    → (manner s).reply (alone (twin w m (changes w.shown last m t)) h) a o ≡ (manner s).reply (alone w h) a o
room_open s w h last a o m t ok reads adm ext within = go (same [] (aim a.group)) refl
  where
    v : World
    v = twin w m (changes w.shown last m t)

    go : (b : Bool) → same [] (aim a.group) ≡ b → (manner s).reply (alone v h) a o ≡ (manner s).reply (alone w h) a o
    go true own = own_reply s v h a o own ∙ question_open s w h last a.question o m t ok reads adm (subst (λ (b : Bool). Extends (if b then next_by (by_words s) o a.question w.shown h else h) last) own ext) within ∙ sym (own_reply s w h a o own)
    go false other = other_reply s v h a o other ∙ sym (other_reply s w h a o other)

-- the history behind an ask goes on from the one before it, and stays admissible
read_grows : (g : Public) (h : List Entry) (asked : Result Request RequestFault) → Extends h (history_where_read g h asked)
read_grows g h (Ok r) = grown_grows g h (question.Query r)
read_grows g h (Err fault) = extends_refl h

given_grows : (s : Dims) (g : Public) (h : List Entry) (q : Question) → Extends h (given_history s q g h)
given_grows s g h (Query text) = read_grows g h (request_of s text)
given_grows s g h (Witness text) = extends_refl h
given_grows s g h Shape = extends_refl h

pub question_grows : (s : Dims) (g : Public) (h : List Entry) (q : Question) (o : Outcome) → Extends h (next_by (by_words s) o q g h)
question_grows s g h q Given = given_grows s g h q
question_grows s g h q JournalFault = extends_refl h
question_grows s g h q NoMemory = extends_refl h

pub ask_grows : (s : Dims) (g : Public) (h : List Entry) (a : Ask) (o : Outcome) → Extends h (behind_ask s g h a o)
ask_grows s g h a o = go (same [] (aim a.group))
  where
    go : (b : Bool) → Extends h (if b then next_by (by_words s) o a.question g h else h)
    go true = question_grows s g h a.question o
    go false = extends_refl h

read_stays : (g : Public) (h : List Entry) (asked : Result Request RequestFault) → IsAdmissible g h → IsAdmissible g (history_where_read g h asked)
read_stays g h (Ok r) adm = admissible_next g h (question.Query r) Given adm
read_stays g h (Err fault) adm = adm

given_stays : (s : Dims) (g : Public) (h : List Entry) (q : Question) → IsAdmissible g h → IsAdmissible g (given_history s q g h)
given_stays s g h (Query text) adm = read_stays g h (request_of s text) adm
given_stays s g h (Witness text) adm = adm
given_stays s g h Shape adm = adm

pub question_stays : (s : Dims) (g : Public) (h : List Entry) (q : Question) (o : Outcome) → IsAdmissible g h → IsAdmissible g (next_by (by_words s) o q g h)
question_stays s g h q Given adm = given_stays s g h q adm
question_stays s g h q JournalFault adm = adm
question_stays s g h q NoMemory adm = adm

pub ask_stays : (s : Dims) (g : Public) (h : List Entry) (a : Ask) (o : Outcome) → IsAdmissible g h → IsAdmissible g (behind_ask s g h a o)
ask_stays s g h a o adm = go (same [] (aim a.group))
  where
    go : (b : Bool) → IsAdmissible g (if b then next_by (by_words s) o a.question g h else h)
    go true = question_stays s g h a.question o adm
    go false = adm

-- ---- a question to a book

pub cells_hidden : (a d : Book) (q : Question) (reply : Reply) (o : Outcome) (st st' : StoreState) → AnswersOne a d q reply o st st' → IsRuled d → HidesCells a d q reply o
cells_hidden a d q reply o st st' x rules m t within =
    let c = d.core in
    let p = d.policy in
    let ok : IsWorld (world c p) = cores_are_worlds c p rules.core rules.policy.methods in
    let replied : reply ≡ reply_by (by_words c.dims) o q (world c p) a.history =
    subst (λ (k : Core). reply ≡ reply_by (by_words k.dims) o q (world k p) a.history) (sym x.core) (subst (λ (r : Policy). reply ≡ reply_by (by_words a.core.dims) o q (world a.core r) a.history) (sym x.policy) x.replied) in
    let moved : d.history ≡ next_by (by_words c.dims) o q (shown c p) a.history =
    subst (λ (k : Core). d.history ≡ next_by (by_words k.dims) o q (shown k p) a.history) (sym x.core) (subst (λ (r : Policy). d.history ≡ next_by (by_words a.core.dims) o q (shown a.core r) a.history) (sym x.policy) x.history) in
    let ext : Extends (next_by (by_words c.dims) o q (shown c p) a.history) d.history = subst (λ (h : List Entry). Extends h d.history) moved (extends_refl d.history) in
    let same = question_open c.dims (world c p) a.history d.history q o m t ok (texts_read c p rules.core rules.policy) rules.admissible ext within ∙ sym replied in
    record {
      same_reply = subst (λ (k : Core). reply_by (by_words k.dims) o q (twin_of d m t) a.history ≡ reply) x.core same;
      other_sum = other_sum (world c p) d.history m t ok rules.admissible within;
    }
