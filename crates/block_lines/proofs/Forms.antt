-- What lines of each form are answered. Assumes nothing.
use Rattle.std.proofs.Common.{◌≡◌, ℕ, ◌-◌, Bool, true, false, cond, List, [], ◌∷◌, ◌++◌, length, drop, is_some, Some, None, Ok, Err, codes, Option, Result, sym, refl, ap, ◌∙◌, subst, inl, inr, arith}
use Rattle.std.specs.Option.{ok_or}
use Rattle.std.specs.Str.{bytes_eq}
use Rattle.std.proofs.lemmas.List.{append-nil, append_assoc, drop_all, drop_at, length-append}
use Rattle.std.proofs.lemmas.Slice.Eq.{bytes_eq-Decides}
use Rattle.std.proofs.lemmas.Bool.{true≢false, cases_Bool, cond-true, cond-false}
use Rattle.text.specs.declared.hex.Letters.TheVariants.{Either}
use Rattle.text.specs.Words.{space, words_of, joined}
use Rattle.text.specs.Readers.{first_of, rest_of}
use Rattle.text.specs.Hex.{bytes_of, block_of, number_of}
use Rattle.text.proofs.Splits.{splits}
use Rattle.block_cipher.specs.Aes.{cipher}
use Rattle.block_cipher.specs.Cmac.{cmac}
use Rattle.block_cipher.specs.Counter.{counter_block}
use Rattle.block_lines.specs.declared.unreadable.Unreadable.{Unreadable}
use Rattle.block_lines.specs.declared.unreadable.Unreadable.TheVariants.{Key, Block, Iv, Index, Message}
use Rattle.block_lines.specs.declared.unreadable.Unreadable.TheVariants as why
use Rattle.block_lines.specs.declared.request.Command.{Command}
use Rattle.block_lines.specs.declared.request.Command.TheVariants as command
use Rattle.block_lines.specs.declared.request.Request.{Request}
use Rattle.block_lines.specs.declared.request.Request.TheVariants.{Encrypt, Counter, Cmac}
use Rattle.block_lines.specs.Requests.{and_then, mapped_ok, present_in, ended, command_of, command_in, arguments_of, block_in, number_in, digits_in, encrypt_of, counter_of, cmac_of, words_ask, silent, request_of}
use Rattle.block_lines.specs.Answers.{last_of, answer_to, reply, answer_of, Asks, encrypt, counter, tag, tag_of_nothing, Answered}
use Rattle.block_lines.proofs.Chains.{goes_on, nothing_asked, words_ask_lem}
use Rattle.block_lines.proofs.Replies.{replies, silence}

-- a word that spells a block or a number is not empty
block_word : (why : Unreadable) (k key : List ℕ) → block_of Either k ≡ Some key → Ok key ≡ block_in why (Some k)
unfolding block_of
block_word why [] key e = absurd (let z : ◌≡◌ {A = ℕ} 0 1 = cc in omega arith)
block_word why (b ∷ bs) key e = ap (λ o. ok_or o why) (sym e)

number_word : (i : List ℕ) (n : ℕ) → number_of Either i ≡ Some n → Ok n ≡ number_in (Some i)
unfolding number_of
number_word [] n e = absurd (let z : ◌≡◌ {A = ℕ} 0 1 = cc in omega arith)
number_word (b ∷ bs) n e = ap (λ o. ok_or o Index) (sym e)

-- what words ask for, as a line does
abbrev asking : List (List ℕ) → Result (Option Request) Unreadable
asking ws = mapped_ok (λ q. Some q) (words_ask ws)

-- a line by its words
module _ (line w : List ℕ) (ws : List (List ℕ)) (split : words_of line ≡ w ∷ ws) where
  whole : line ≡ joined (w ∷ ws)
  whole = sym (splits.joins line) ∙ ap joined split

  pub asks : silent (joined (w ∷ ws)) ≡ false → asking (w ∷ ws) ≡ request_of line
  asks e = ap asking (sym split) ∙ words_ask_lem line (sym (ap silent whole ∙ e))

-- the key, then what the command takes
after_key : (r : Result Request Unreadable) (k key : List ℕ) (f : List ℕ → Result Request Unreadable) → block_of Either k ≡ Some key → f key ≡ r → and_then (block_in Key (Some k)) f ≡ r
after_key r k key f e h = sym (goes_on (block_in Key) f (Some k) (Some k) refl key (block_word Key k key e)) ∙ h

encrypt_asks : (k b key block : List ℕ) → block_of Either k ≡ Some key → block_of Either b ≡ Some block → words_ask (codes "encrypt" ∷ k ∷ b ∷ []) ≡ Ok (Encrypt key block)
unfolding words_ask encrypt_of
encrypt_asks k b key block ek eb =
    after_key (Ok (Encrypt key block)) k key (λ x. encrypt_of x (b ∷ [])) ek
    (sym (goes_on (block_in Block) (λ y. and_then (ended None) (λ _. Ok (Encrypt key y))) (Some b) (Some b) refl block (block_word Block b block eb)))

counter_asks : (k v i key iv : List ℕ) (n : ℕ) → block_of Either k ≡ Some key → block_of Either v ≡ Some iv → number_of Either i ≡ Some n → words_ask (codes "counter" ∷ k ∷ v ∷ i ∷ []) ≡ Ok (Counter key iv n)
unfolding words_ask counter_of
counter_asks k v i key iv n ek ev ei =
    after_key (Ok (Counter key iv n)) k key (λ x. counter_of x (v ∷ i ∷ [])) ek
    (sym (goes_on (block_in Iv) (λ y. and_then (number_in (Some i)) (λ m. and_then (ended None) (λ _. Ok (Counter key y m)))) (Some v) (Some v) refl iv (block_word Iv v iv ev))
    ∙ sym (goes_on number_in (λ m. and_then (ended None) (λ _. Ok (Counter key iv m))) (Some i) (Some i) refl n (number_word i n ei)))

digits_word : (m message : List ℕ) → bytes_of Either m ≡ Some message → (m ≡ [] → ⊥) → Ok (length m) ≡ digits_in (Some m)
digits_word [] message e h = absurd (h refl)
digits_word (b ∷ bs) message e h = sym (cond-true (is_some (bytes_of Either (b ∷ bs))) (Ok (length (b ∷ bs))) (Err Message) (ap is_some e))

cmac_asks : (k m key message : List ℕ) → block_of Either k ≡ Some key → bytes_of Either m ≡ Some message → (m ≡ [] → ⊥) → words_ask (codes "cmac" ∷ k ∷ m ∷ []) ≡ Ok (Cmac key (length m))
unfolding words_ask cmac_of
cmac_asks k m key message ek em h =
    after_key (Ok (Cmac key (length m))) k key (λ x. cmac_of x (m ∷ [])) ek
    (sym (goes_on digits_in (λ n. and_then (ended None) (λ _. Ok (Cmac key n))) (Some m) (Some m) refl (length m) (digits_word m message em h)))

cmac_asks_nothing : (k key : List ℕ) → block_of Either k ≡ Some key → words_ask (codes "cmac" ∷ k ∷ []) ≡ Ok (Cmac key 0)
unfolding words_ask cmac_of
cmac_asks_nothing k key ek = after_key (Ok (Cmac key 0)) k key (λ x. cmac_of x []) ek refl

-- the last word of a line is its end
last_word : (p m line : List ℕ) → line ≡ p ++ m → last_of (length m) line ≡ m
last_word p m line e =
    ap (drop (length line - length m)) e ∙ drop_at p m (length line - length m) (omega (arith, ap length e, length-append p m))

-- the tag of the line's last n bytes
tag_answer : (line key message : List ℕ) (n : ℕ) → words_ask (words_of line) ≡ Ok (Cmac key n) → asking (words_of line) ≡ request_of line → bytes_of Either (last_of n line) ≡ Some message → answer_of line ≡ Ok (Some (cmac key message))
unfolding answer_to
tag_answer line key message n e r h =
    sym (replies line (Cmac key n) (sym (ap (mapped_ok (λ q. Some q)) e) ∙ r)) ∙ ap (λ o. and_then (and_then (ok_or o Message) (λ x. Ok (cmac key x))) (λ tag. Ok (Some tag))) h

-- the message of a line is its last bytes
message_last : (line k m : List ℕ) → words_of line ≡ codes "cmac" ∷ k ∷ m ∷ [] → last_of (length m) line ≡ m
message_last line k m split =
    let p : List ℕ = codes "cmac" ++ (space ∷ (k ++ (space ∷ []))) in
    let parts : line ≡ p ++ m = whole line (codes "cmac") (k ∷ m ∷ []) split ∙ ap (λ t. codes "cmac" ++ (space ∷ t)) (ap (λ t. k ++ (space ∷ t)) (append-nil m) ∙ sym (append_assoc k (space ∷ []) m)) in
    last_word p m line parts

-- The way back: what a request shows of the words.

read_first : {A B : Type 0} (r : Result A Unreadable) (f : A → Result B Unreadable) (y : B) → and_then r f ≡ Ok y → (x : A) × (r ≡ Ok x) × (f x ≡ Ok y)
read_first (Ok x) f y e = (x, refl, e)
read_first (Err w) f y e = absurd (let z : ◌≡◌ {A = ℕ} 0 1 = cc in omega arith)

from_ok : {A : Type 0} (o : Option A) (w : Unreadable) (x : A) → ok_or o w ≡ Ok x → o ≡ Some x
from_ok (Some y) w x e = cc
from_ok None w x e = absurd (let z : ◌≡◌ {A = ℕ} 0 1 = cc in omega arith)

some_of : {A : Type 0} (o : Option A) → is_some o ≡ true → (x : A) × (o ≡ Some x)
some_of (Some x) e = (x, refl)
some_of None e = absurd (true≢false (sym e))

tail_is : {ws vs : List (List ℕ)} {w : List ℕ} → ws ≡ w ∷ vs → vs ≡ rest_of ws
tail_is e = sym (ap rest_of e)

-- h reads the first word
first_word : {A : Type 0} (h : List ℕ → Result A Unreadable) (ws : List (List ℕ)) (x : A) → and_then (present_in (first_of ws)) h ≡ Ok x
    → (w : List ℕ) × (vs : List (List ℕ)) × (ws ≡ w ∷ vs) × (h w ≡ Ok x)
first_word h [] x e = absurd (let z : ◌≡◌ {A = ℕ} 0 1 = cc in omega arith)
first_word h ([] ∷ vs) x e = absurd (let z : ◌≡◌ {A = ℕ} 0 1 = cc in omega arith)
first_word h ((b ∷ bs) ∷ vs) x e = (b ∷ bs, vs, refl, e)

no_more : (ws : List (List ℕ)) (u : Unit {0}) → ended (first_of ws) ≡ Ok u → ws ≡ []
no_more [] u e = refl
no_more ([] ∷ vs) u e = absurd (let z : ◌≡◌ {A = ℕ} 0 1 = cc in omega arith)
no_more ((b ∷ bs) ∷ vs) u e = absurd (let z : ◌≡◌ {A = ℕ} 0 1 = cc in omega arith)

-- the words after a command's name and its key
module _ (line k key : List ℕ) (us : List (List ℕ)) (q : Request) (ek : block_of Either k ≡ Some key) where
  encrypt_form : words_of line ≡ codes "encrypt" ∷ k ∷ us → encrypt_of key us ≡ Ok q → (out : List ℕ) × Asks line out
  unfolding encrypt_of
  encrypt_form split e =
      let r = read_first (block_in Block (first_of us)) (λ block. and_then (ended (first_of (rest_of us))) (λ _. Ok (Encrypt key block))) q e in
      let w = first_word (λ t. ok_or (block_of Either t) Block) us r.0 r.1 in
      let t = read_first (ended (first_of (rest_of us))) (λ _. Ok (Encrypt key r.0)) q r.2 in
      let last : w.1 ≡ [] = tail_is w.2 ∙ no_more (rest_of us) t.0 t.1 in
      (cipher key r.0, encrypt k w.0 key r.0 (split ∙ ap (λ l. codes "encrypt" ∷ k ∷ l) (w.2 ∙ ap (λ l. w.0 ∷ l) last)) ek (from_ok (block_of Either w.0) Block r.0 w.3) refl)

  counter_form : words_of line ≡ codes "counter" ∷ k ∷ us → counter_of key us ≡ Ok q → (out : List ℕ) × Asks line out
  unfolding counter_of
  counter_form split e =
      let r = read_first (block_in Iv (first_of us)) (λ iv. and_then (number_in (first_of (rest_of us))) (λ i. and_then (ended (first_of (rest_of (rest_of us)))) (λ _. Ok (Counter key iv i)))) q e in
      let w = first_word (λ t. ok_or (block_of Either t) Iv) us r.0 r.1 in
      let t = read_first (number_in (first_of (rest_of us))) (λ i. and_then (ended (first_of (rest_of (rest_of us)))) (λ _. Ok (Counter key r.0 i))) q r.2 in
      let v = first_word (λ t. ok_or (number_of Either t) Index) (rest_of us) t.0 t.1 in
      let n = read_first (ended (first_of (rest_of (rest_of us)))) (λ _. Ok (Counter key r.0 t.0)) q t.2 in
      let last : v.1 ≡ [] = tail_is v.2 ∙ no_more (rest_of (rest_of us)) n.0 n.1 in
      let rest : w.1 ≡ v.0 ∷ [] = tail_is w.2 ∙ v.2 ∙ ap (λ l. v.0 ∷ l) last in (
        counter_block key r.0 t.0,
        counter k w.0 v.0 key r.0 t.0 (split ∙ ap (λ l. codes "counter" ∷ k ∷ l) (w.2 ∙ ap (λ l. w.0 ∷ l) rest)) ek (from_ok (block_of Either w.0) Iv r.0 w.3) (from_ok (number_of Either v.0) Index t.0 v.3) refl,
      )

cmac_form : (line k key : List ℕ) (us : List (List ℕ)) (q : Request) → block_of Either k ≡ Some key → words_of line ≡ codes "cmac" ∷ k ∷ us → cmac_of key us ≡ Ok q → (out : List ℕ) × Asks line out
unfolding cmac_of
cmac_form line k key [] q ek split e = (cmac key [], tag_of_nothing k key split ek refl)
cmac_form line k key ([] ∷ vs) q ek split e = absurd (let z : ◌≡◌ {A = ℕ} 0 1 = cc in omega arith)
cmac_form line k key ((b ∷ bs) ∷ vs) q ek split e =
    let m : List ℕ = b ∷ bs in
    elim (cases_Bool (is_some (bytes_of Either m))) [
      | inl t ↦
          let x = some_of (bytes_of Either m) t in
          let r = read_first (digits_in (Some m)) (λ n. and_then (ended (first_of vs)) (λ _. Ok (Cmac key n))) q e in
          let n = read_first (ended (first_of vs)) (λ _. Ok (Cmac key r.0)) q r.2 in
          let some : m ≡ [] → ⊥ = λ h. (let z : ◌≡◌ {A = ℕ} 0 1 = cc in omega arith) in
          (cmac key x.0, tag k m key x.0 (split ∙ ap (λ l. codes "cmac" ∷ k ∷ m ∷ l) (no_more vs n.0 n.1)) some ek x.1 refl)
      | inr t ↦
          let r = read_first (digits_in (Some m)) (λ n. and_then (ended (first_of vs)) (λ _. Ok (Cmac key n))) q e in
          let f : digits_in (Some m) ≡ Err Message = cond-false (is_some (bytes_of Either m)) (Ok (length m)) (Err Message) t in
          absurd (let g = r.1 in let z : ◌≡◌ {A = ℕ} 0 1 = cc (f, g) in omega arith)
    ]

-- a command by its name
taken : (b : Bool) (d c : Command) (r : Result Command Unreadable) → b ≡ true → cond b (Ok d) r ≡ Ok c → d ≡ c
taken true d c r t e = cc
taken false d c r t e = absurd (true≢false (sym t))

passed : (b : Bool) (d c : Command) (r : Result Command Unreadable) → b ≡ false → cond b (Ok d) r ≡ Ok c → r ≡ Ok c
passed true d c r t e = absurd (true≢false t)
passed false d c r t e = e

command_form : (line name k key : List ℕ) (us : List (List ℕ)) (c : Command) (q : Request) → command_of name ≡ Ok c → block_of Either k ≡ Some key
    → words_of line ≡ name ∷ k ∷ us → arguments_of c key us ≡ Ok q → (out : List ℕ) × Asks line out
command_form line name k key us c q named ek split e =
    let is : (w : List ℕ) → bytes_eq name w ≡ true → words_of line ≡ w ∷ k ∷ us = λ w t. split ∙ ap (λ l. l ∷ k ∷ us) ((bytes_eq-Decides name w).0 t) in
    let given : (d : Command) → d ≡ c → arguments_of d key us ≡ Ok q = λ d h. ap (λ x. arguments_of x key us) h ∙ e in
    let first = bytes_eq name (codes "encrypt") in
    let second = bytes_eq name (codes "counter") in
    let third = bytes_eq name (codes "cmac") in
    elim (cases_Bool first) [
      | inl t ↦ encrypt_form line k key us q ek (is (codes "encrypt") t) (given command.Encrypt (taken first command.Encrypt c _ t named))
      | inr n ↦
          let later = passed first command.Encrypt c _ n named in
          elim (cases_Bool second) [
            | inl t ↦ counter_form line k key us q ek (is (codes "counter") t) (given command.Counter (taken second command.Counter c _ t later))
            | inr m ↦
                let last = passed second command.Counter c _ m later in
                elim (cases_Bool third) [
                  | inl t ↦ cmac_form line k key us q ek (is (codes "cmac") t) (given command.Cmac (taken third command.Cmac c _ t last))
                  | inr o ↦ absurd (let f = passed third command.Cmac c (Err why.Command) o last in let z : ◌≡◌ {A = ℕ} 0 1 = cc in omega arith)
                ]
          ]
    ]

-- a line whose words ask for something asks for sixteen bytes
form : (line : List ℕ) (q : Request) → words_ask (words_of line) ≡ Ok q → (out : List ℕ) × Asks line out
unfolding words_ask
form line q e =
    let ws = words_of line in
    let r = read_first (command_in (first_of ws)) (λ c. and_then (block_in Key (first_of (rest_of ws))) (λ key. arguments_of c key (rest_of (rest_of ws)))) q e in
    let w = first_word command_of ws r.0 r.1 in
    let t = read_first (block_in Key (first_of (rest_of ws))) (λ key. arguments_of r.0 key (rest_of (rest_of ws))) q r.2 in
    let v = first_word (λ t. ok_or (block_of Either t) Key) (rest_of ws) t.0 t.1 in
    command_form line w.0 v.0 t.0 v.1 r.0 q w.3 (from_ok (block_of Either v.0) Key t.0 v.3)
    (w.2 ∙ ap (λ l. w.0 ∷ l) (tail_is w.2 ∙ v.2)) (ap (arguments_of r.0 t.0) (tail_is v.2) ∙ t.2)

each : (line out : List ℕ) → Asks line out → answer_of line ≡ Ok (Some out)
unfolding answer_to bytes_of
each line out (encrypt k b key block split ek eb e) =
    sym (replies line (Encrypt key block) (sym (ap (mapped_ok (λ q. Some q)) (encrypt_asks k b key block ek eb)) ∙ asks line (codes "encrypt") (k ∷ b ∷ []) split refl)) ∙ ap (λ o. Ok (Some o)) (sym e)
each line out (counter k v i key iv n split ek ev ei e) =
    sym (replies line (Counter key iv n) (sym (ap (mapped_ok (λ q. Some q)) (counter_asks k v i key iv n ek ev ei)) ∙ asks line (codes "counter") (k ∷ v ∷ i ∷ []) split refl)) ∙ ap (λ o. Ok (Some o)) (sym e)
each line out (tag k m key message split h ek em e) =
    let r = asks line (codes "cmac") (k ∷ m ∷ []) split refl in
    tag_answer line key message (length m) (ap words_ask split ∙ cmac_asks k m key message ek em h) (ap asking split ∙ r) (ap (bytes_of Either) (message_last line k m split) ∙ em)
    ∙ ap (λ o. Ok (Some o)) (sym e)
each line out (tag_of_nothing k key split ek e) =
    let r = asks line (codes "cmac") (k ∷ []) split refl in
    tag_answer line key [] 0 (ap words_ask split ∙ cmac_asks_nothing k key ek) (ap asking split ∙ r) (ap (bytes_of Either) (drop_all (length line - 0) line (omega arith)))
    ∙ ap (λ o. Ok (Some o)) (sym e)

skips : (line : List ℕ) → silent line ≡ true → answer_of line ≡ Ok None
skips line e = sym (silence line (nothing_asked line (sym e)))

-- an answer shows what was asked
asked_for : (line : List ℕ) (a : Option (List ℕ)) → answer_of line ≡ Ok a → silent line ≡ false → (out : List ℕ) × Asks line out
unfolding answer_of
asked_for line a e t =
    let r = read_first (request_of line) (reply line) a e in
    let q = read_first (words_ask (words_of line)) (λ x. Ok (Some x)) r.0 (words_ask_lem line (sym t) ∙ r.1) in
    form line q.0 q.1

same_out : (r : Result (Option (List ℕ)) Unreadable) (a b : List ℕ) → r ≡ Ok (Some a) → r ≡ Ok (Some b) → a ≡ b
same_out r a b e h = cc

not_both : (r : Result (Option (List ℕ)) Unreadable) (a : List ℕ) → r ≡ Ok (Some a) → r ≡ Ok None → ⊥
not_both r a e h = let z : ◌≡◌ {A = ℕ} 0 1 = cc in omega arith

only : (line out : List ℕ) → answer_of line ≡ Ok (Some out) → Asks line out
only line out e =
    elim (cases_Bool (silent line)) [
      | inl t ↦ absurd (not_both (answer_of line) out e (skips line t))
      | inr t ↦ let f = asked_for line (Some out) e t in subst (Asks line) (same_out (answer_of line) f.0 out (each line f.0 f.1) e) f.1
    ]

skips_only : (line : List ℕ) → answer_of line ≡ Ok None → silent line ≡ true
skips_only line e =
    elim (cases_Bool (silent line)) [
      | inl t ↦ t
      | inr t ↦ let f = asked_for line None e t in absurd (not_both (answer_of line) f.0 (each line f.0 f.1) e)
    ]

pub answered : Answered
answered = record { each = each; only = only; skips = skips; skips_only = skips_only }
