-- The opening of a text that goes on.
use Rattle.std.proofs.Common.{◌≡◌, ◌⊎◌, inl, inr, ℕ, zero, suc, ◌+◌, ◌<◌, ◌≤◌, Bool, true, false, List, [], ◌∷◌, ◌++◌, length, take, refl, sym, ◌∙◌, ap, arith, length-append, Option, Some, None, if◌then◌else◌, nat_le}
use Rattle.std.specs.Prelude.{find}
use Rattle.std.specs.Option.{option_or}
use Rattle.std.proofs.lemmas.Bool.Decides.{nat_tests}
use Rattle.std.proofs.lemmas.List.{take-append-le, take_all}
use Rattle.std.proofs.lemmas.List.Folds.{find-append}
use Rattle.httparse.specs.Grammar.{RequestHead}
use Rattle.cube_model.specs.declared.reply.Fixed.{Fixed}
use Rattle.cube_model.specs.declared.reply.Fixed.TheVariants.{HeadTooLarge}
use Rattle.cube_http.specs.Head.{front, rest, head_of}
use Rattle.cube_http.specs.Checks.{check}
use Rattle.cube_http.specs.Stream.{Opening, is_break, ends_head, numbers, head_len, most_head, checked, parsed, measured, opening}
use Rattle.cube_http.specs.Stream.Opening.{Unended, Refused, Headed}

pub le_true : (a b : ℕ) → a ≤ b → nat_le a b ≡ true
le_true a b le = grind (arith, nat_tests)

pub le_false : (a b : ℕ) → b < a → nat_le a b ≡ false
le_false a b lt = grind (arith, nat_tests)

pub le_of : (a b : ℕ) → nat_le a b ≡ true → a ≤ b
le_of a b t = grind (arith, nat_tests)

pub lt_of : (a b : ℕ) → nat_le a b ≡ false → b < a
lt_of a b t = grind (arith, nat_tests)

pub some_same : (k j : ℕ) → Some k ≡ Some j → k ≡ j
some_same k j e = cc

none_some : (k : ℕ) → None ≡ Some k → ⊥
none_some k e = cc

numbers-append : (s a b : ℕ) → numbers s (a + b) ≡ numbers s a ++ numbers (s + a) b
numbers-append s zero b = let e : zero + b ≡ b = omega arith in let f : s + zero ≡ s = omega arith in rw (e, f) refl
numbers-append s (suc a) b =
    let e : suc a + b ≡ suc (a + b) = omega arith in
    let f : s + suc a ≡ suc s + a = omega arith in
    rw (e, f) (ap (λ (l : List ℕ). s ∷ l) (numbers-append (suc s) a b))

-- what is found among numbers lies among them
find_within : (p : ℕ → Bool) (s a k : ℕ) → find p (numbers s a) ≡ Some k → (s ≤ k) × (k < s + a)
find_within p s zero k e = absurd (none_some k e)
find_within p s (suc a) k e = by (p s) refl (λ f. find_within p (suc s) a k f)
  where
    by : (t : Bool) → p s ≡ t → (find p (numbers (suc s) a) ≡ Some k → (suc s ≤ k) × (k < suc s + a)) → (s ≤ k) × (k < s + suc a)
    by true t others = let f : s ≡ k = some_same s k (rw t at e) in (omega arith, omega arith)
    by false t others = let h = others (rw t at e) in (omega (arith, h), omega (arith, h))

-- tests that agree on numbers find the same among them
find_alike : (p q : ℕ → Bool) (s a : ℕ) → ((k : ℕ) → k < s + a → p k ≡ q k) → find p (numbers s a) ≡ find q (numbers s a)
find_alike p q s zero same = refl
find_alike p q s (suc a) same =
    let here : p s ≡ q s = same s (omega arith) in
    let others = find_alike p q (suc s) a (λ k lt. same k (omega arith)) in
    rw (here, others) refl

-- the head of a longer text: that of the shorter one, or one that ends behind it
pub head_len-append : (xs ys : List ℕ) → head_len (xs ++ ys) ≡ option_or (head_len xs) (find (λ n. ends_head (take n (xs ++ ys))) (numbers (1 + length xs) (length ys)))
unfolding head_len
head_len-append xs ys =
    let p = λ (n : ℕ). ends_head (take n (xs ++ ys)) in
    let q = λ (n : ℕ). ends_head (take n xs) in
    let same : find p (numbers 1 (length xs)) ≡ find q (numbers 1 (length xs)) = find_alike p q 1 (length xs) (λ k lt. ap ends_head (take-append-le k xs ys (omega arith))) in
    ap (λ (n : ℕ). find p (numbers 1 n)) (length-append xs ys) ∙ ap (find p) (numbers-append 1 (length xs) (length ys))
    ∙ find-append p (numbers 1 (length xs)) (numbers (1 + length xs) (length ys)) ∙ ap (λ (o : Option ℕ). option_or o (find p (numbers (1 + length xs) (length ys)))) same

-- one more byte ends a head exactly where the bytes then end with an empty line
pub head_len_more : (xs : List ℕ) (b : ℕ) → head_len xs ≡ None → head_len (xs ++ b ∷ []) ≡ (if ends_head (xs ++ b ∷ []) then Some (length (xs ++ b ∷ [])) else None)
head_len_more xs b none =
    let size : 1 + length xs ≡ length (xs ++ b ∷ []) = omega (arith, length-append xs (b ∷ [])) in
    head_len-append xs (b ∷ []) ∙ ap (λ (o : Option ℕ). option_or o (find (λ n. ends_head (take n (xs ++ b ∷ []))) (numbers (1 + length xs) 1))) none
    ∙ ap (λ (n : ℕ). if ends_head (take n (xs ++ b ∷ [])) then Some n else None) size
    ∙ ap (λ (l : List ℕ). if ends_head l then Some (length (xs ++ b ∷ [])) else None) (take_all (length (xs ++ b ∷ [])) (xs ++ b ∷ []) (omega arith))

-- a head that a text has lies in it
pub head_within : (xs : List ℕ) (k : ℕ) → head_len xs ≡ Some k → (0 < k) × (k ≤ length xs)
unfolding head_len
head_within xs k e = let h = find_within (λ n. ends_head (take n xs)) 1 (length xs) k e in (omega arith, omega arith)

data Ends (xs ys : List ℕ) : Type 0 where
  Same : (k : ℕ) → head_len xs ≡ Some k → head_len (xs ++ ys) ≡ Some k → 0 < k → k ≤ length xs → Ends xs ys
  Later : head_len xs ≡ None → ((k : ℕ) → head_len (xs ++ ys) ≡ Some k → length xs < k) → Ends xs ys

head_ends : (xs ys : List ℕ) → Ends xs ys
head_ends xs ys = by (head_len xs) refl
  where
    more : Option ℕ
    more = find (λ n. ends_head (take n (xs ++ ys))) (numbers (1 + length xs) (length ys))

    by : (o : Option ℕ) → head_len xs ≡ o → Ends xs ys
    by (Some k) e = let h = head_within xs k e in Same k e (head_len-append xs ys ∙ ap (λ (p : Option ℕ). option_or p more) e) h.0 h.1
    by None e = Later e (λ k f. let g : more ≡ Some k = sym (head_len-append xs ys ∙ ap (λ (p : Option ℕ). option_or p more) e) ∙ f in
        let h = find_within (λ n. ends_head (take n (xs ++ ys))) (1 + length xs) (length ys) k g in omega (arith, h))

-- the line ends before a head
pub record Blank (xs ys : List ℕ) : Type 0 where
  pub all : rest is_break xs ≡ []
  pub front_all : front is_break xs ≡ xs
  pub front_is : front is_break (xs ++ ys) ≡ xs ++ front is_break ys
  pub rest_is : rest is_break (xs ++ ys) ≡ rest is_break ys

pub record Begun (xs ys : List ℕ) : Type 0 where
  pub begun : 0 < length (rest is_break xs)
  pub front_is : front is_break (xs ++ ys) ≡ front is_break xs
  pub rest_is : rest is_break (xs ++ ys) ≡ rest is_break xs ++ ys
  pub size : length xs ≡ length (front is_break xs) + length (rest is_break xs)

pub blanks : (xs ys : List ℕ) → Blank xs ys ⊎ Begun xs ys
blanks [] ys = inl (record { all = refl; front_all = refl; front_is = refl; rest_is = refl })
blanks (x ∷ xs) ys = by (is_break x) refl (blanks xs ys)
  where
    by : (t : Bool) → is_break x ≡ t → Blank xs ys ⊎ Begun xs ys → Blank (x ∷ xs) ys ⊎ Begun (x ∷ xs) ys
    by true t (inl b) = inl (record { all = rw t b.all; front_all = rw t (ap (λ (l : List ℕ). x ∷ l) b.front_all); front_is = rw t (ap (λ (l : List ℕ). x ∷ l) b.front_is); rest_is = rw t b.rest_is })
    by true t (inr b) = inr (record { begun = rw t b.begun; front_is = rw t (ap (λ (l : List ℕ). x ∷ l) b.front_is); rest_is = rw t b.rest_is; size = rw t (omega (arith, b.size)) })
    by false t either = inr (record { begun = rw t (omega arith); front_is = rw t refl; rest_is = rw t refl; size = rw t (omega arith) })

-- an opening that ends within so many bytes
abbrev pub Settled : ℕ → Opening → Type 0
Settled n Unended = ⊥
Settled n (Refused k fixed) = (0 < k) × (k ≤ n)
Settled n (Headed k h) = (0 < k) × (k ≤ n)

-- an opening that ends behind so many bytes, if at all
abbrev pub Beyond : ℕ → Opening → Type 0
Beyond n Unended = Unit {0}
Beyond n (Refused k fixed) = n < k
Beyond n (Headed k h) = n < k

checked_settled : (n k : ℕ) (h : RequestHead) (o : Option Fixed) → 0 < k → k ≤ n → Settled n (checked k h o)
checked_settled n k h None pos le = (pos, le)
checked_settled n k h (Some f) pos le = (pos, le)

parsed_settled : (n k : ℕ) (o : Option RequestHead) → 0 < k → k ≤ n → Settled n (parsed k o)
parsed_settled n k None pos le = (pos, le)
parsed_settled n k (Some h) pos le = checked_settled n k h (check h) pos le

checked_beyond : (n k : ℕ) (h : RequestHead) (o : Option Fixed) → n < k → Beyond n (checked k h o)
checked_beyond n k h None lt = lt
checked_beyond n k h (Some f) lt = lt

parsed_beyond : (n k : ℕ) (o : Option RequestHead) → n < k → Beyond n (parsed k o)
parsed_beyond n k None lt = lt
parsed_beyond n k (Some h) lt = checked_beyond n k h (check h) lt

measured_beyond : (b dropped : ℕ) (text : List ℕ) (o : Option ℕ) → b < dropped + most_head → ((k : ℕ) → o ≡ Some k → b < dropped + k) → Beyond b (measured dropped text o)
measured_beyond b dropped text None most some = by (nat_le most_head (length text))
  where
    by : (t : Bool) → Beyond b (if t then Refused (dropped + most_head) HeadTooLarge else Unended)
    by true = most
    by false = tt
measured_beyond b dropped text (Some k) most some = by (nat_le k most_head)
  where
    by : (t : Bool) → Beyond b (if t then parsed (dropped + k) (head_of (take k text)) else Refused (dropped + most_head) HeadTooLarge)
    by true = parsed_beyond b (dropped + k) (head_of (take k text)) (some k refl)
    by false = most

-- The opening of a longer text: that of the shorter one, or one that ends behind it.
pub data Goes (xs ys : List ℕ) : Type 0 where
  Stays : Settled (length xs) (opening xs) → opening (xs ++ ys) ≡ opening xs → Goes xs ys
  Comes : opening xs ≡ Unended → Beyond (length xs) (opening (xs ++ ys)) → Goes xs ys

-- the same for a text that begins with no line end
Measured : ℕ → List ℕ → List ℕ → Type 0
Measured d r ys = (Settled (d + length r) (measured d r (head_len r)) × (measured d (r ++ ys) (head_len (r ++ ys)) ≡ measured d r (head_len r)))
    ⊎ ((measured d r (head_len r) ≡ Unended) × Beyond (d + length r) (measured d (r ++ ys) (head_len (r ++ ys))))

-- the two of one head
two_ends : (d : ℕ) (r ys : List ℕ) → Ends r ys → Measured d r ys
unfolding Measured
two_ends d r ys (Same k e f pos le) = rw (e, f) (inl (settled (nat_le k most_head) refl, same (nat_le k most_head)))
  where
    settled : (t : Bool) → nat_le k most_head ≡ t → Settled (d + length r) (if t then parsed (d + k) (head_of (take k r)) else Refused (d + most_head) HeadTooLarge)
    settled true t = parsed_settled (d + length r) (d + k) (head_of (take k r)) (omega arith) (omega arith)
    settled false t = let lt = lt_of k most_head t in (omega arith, omega arith)

    same : (t : Bool) → (if t then parsed (d + k) (head_of (take k (r ++ ys))) else Refused (d + most_head) HeadTooLarge) ≡ (if t then parsed (d + k) (head_of (take k r)) else Refused (d + most_head) HeadTooLarge)
    same true = ap (λ (l : List ℕ). parsed (d + k) (head_of l)) (take-append-le k r ys le)
    same false = refl
two_ends d r ys (Later e late) = rw e (sized (nat_le most_head (length r)) refl)
  where
    longer : length r ≤ length (r ++ ys)
    longer = omega (arith, length-append r ys)

    full : (o : Option ℕ) → ((k : ℕ) → o ≡ Some k → length r < k) → most_head ≤ length r → measured d (r ++ ys) o ≡ Refused (d + most_head) HeadTooLarge
    full None behind capacity = ap (λ (t : Bool). if t then Refused (d + most_head) HeadTooLarge else Unended) (le_true most_head (length (r ++ ys)) (omega (arith, longer)))
    full (Some k) behind capacity = let lt = behind k refl in ap (λ (t : Bool). if t then parsed (d + k) (head_of (take k (r ++ ys))) else Refused (d + most_head) HeadTooLarge) (le_false k most_head (omega arith))

    sized : (t : Bool) → nat_le most_head (length r) ≡ t
        → (Settled (d + length r) (if t then Refused (d + most_head) HeadTooLarge else Unended) × (measured d (r ++ ys) (head_len (r ++ ys)) ≡ (if t then Refused (d + most_head) HeadTooLarge else Unended)))
        ⊎ (((if t then Refused (d + most_head) HeadTooLarge else Unended) ≡ Unended) × Beyond (d + length r) (measured d (r ++ ys) (head_len (r ++ ys))))
    sized true t = let le = le_of most_head (length r) t in inl ((omega arith, omega arith), full (head_len (r ++ ys)) late le)
    sized false t = let lt = lt_of most_head (length r) t in
        inr (refl, measured_beyond (d + length r) d (r ++ ys) (head_len (r ++ ys)) (omega arith) (λ k f. let h = late k f in omega (arith, h)))

pub goes : (xs ys : List ℕ) → Goes xs ys
unfolding opening head_len Measured
goes xs ys = by (blanks xs ys)
  where
    blank : Blank xs ys → Goes xs ys
    blank b =
        let long : length (front is_break (xs ++ ys)) ≡ length xs + length (front is_break ys) = ap length b.front_is ∙ length-append xs (front is_break ys) in
        Comes (ap (λ (r : List ℕ). measured (length (front is_break xs)) r (head_len r)) b.all)
        (measured_beyond (length xs) (length (front is_break (xs ++ ys))) (rest is_break (xs ++ ys)) (head_len (rest is_break (xs ++ ys))) (omega (arith, long))
        (λ k e. let p = head_within (rest is_break (xs ++ ys)) k e in omega (arith, long, p)))

    either : (d : ℕ) (r : List ℕ) → length xs ≡ d + length r → opening xs ≡ measured d r (head_len r) → opening (xs ++ ys) ≡ measured d (r ++ ys) (head_len (r ++ ys)) → Measured d r ys → Goes xs ys
    either d r size is more (inl (settled, same)) = Stays (rw (is, size) settled) (more ∙ same ∙ sym is)
    either d r size is more (inr (none, late)) = Comes (is ∙ none) (rw (more, size) late)

    by : Blank xs ys ⊎ Begun xs ys → Goes xs ys
    by (inl b) = blank b
    by (inr b) = either (length (front is_break xs)) (rest is_break xs) b.size refl
        (ap (λ (l : List ℕ). measured (length l) (rest is_break (xs ++ ys)) (head_len (rest is_break (xs ++ ys)))) b.front_is
        ∙ ap (λ (l : List ℕ). measured (length (front is_break xs)) l (head_len l)) b.rest_is)
        (two_ends (length (front is_break xs)) (rest is_break xs) ys (head_ends (rest is_break xs) ys))
