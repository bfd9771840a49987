-- What is read of a text is what stands at its front.
use Rattle.std.proofs.Common.{◌≡◌, ◌∙◌, ap, refl, sym, subst, ℕ, zero, suc, ◌+◌, ◌<◌, ◌==◌, nat_lt, List, [], ◌∷◌, ◌++◌, length, get_or, append_assoc, map, flat_map, Bool, true, false, cond, bytes_eq, decimal, Option, Some, None, inl, inr}
use Rattle.std.specs.Option.{option_map}
use Rattle.std.specs.Str.Parse.{digits_value}
use Rattle.std.specs.List.{AllByRecursion}
use Rattle.std.proofs.lemmas.Bool.{cases_Bool, eqb-true, ltb-true}
use Rattle.std.proofs.lemmas.Option.{same_Some}
use Rattle.std.proofs.lemmas.List.Quantifiers.{position-Some}
use Rattle.std.proofs.lemmas.Slice.Eq.{bytes_eq-Decides}
use Rattle.at_name.specs.Texts.{place_of}
use Rattle.at_script.specs.Literals.{◌>>=◌}
use Rattle.at_script.specs.Words.{continues_identifier}
use Rattle.at_text.specs.Values.{text_at}
use Rattle.at_text.specs.Readers.{Reader, Row, nothing, made, passing, both, past, after, before, chosen, choice, run, past_run, number_of, number_below, number_at, name_at, up_to, numbered}

-- Where it gives something, its text stands at the front, and the rest is left.
pub record Gives {A : Type 0} (r : Reader A) (text : A → List ℕ) (Has : A → Type 0) : Type 0 where
  pub there : (t : List ℕ) (p : A × List ℕ) → r t ≡ Some p → (t ≡ text p.0 ++ p.1) × Has p.0

-- Parts of an answer

pub bind_parts : {A B : Type 0} (o : Option A) (f : A → Option B) (y : B) → (o >>= f) ≡ Some y → (x : A) × (o ≡ Some x) × (f x ≡ Some y)
bind_parts None f y h = cc
bind_parts (Some x) f y h = (x, refl, h)

pub map_parts : {A B : Type 0} (f : A → B) (o : Option A) (y : B) → option_map f o ≡ Some y → (x : A) × (o ≡ Some x) × (f x ≡ y)
map_parts f None y h = cc
map_parts f (Some x) y h = (x, refl, same_Some (f x) y h)

pub past_gives : (word t rest : List ℕ) → past word t ≡ Some rest → t ≡ word ++ rest
past_gives [] t rest h = same_Some t rest h
past_gives (b ∷ word) [] rest h = cc
past_gives (b ∷ word) (f ∷ t) rest h =
    elim (cases_Bool (b == f)) [
      | inl e ↦
          let k : past word t ≡ Some rest = sym (ap (λ c. cond c (past word t) None) e) ∙ h in
          ap (λ l. f ∷ l) (past_gives word t rest k) ∙ ap (λ c. c ∷ (word ++ rest)) (sym (eqb-true b f e))
      | inr e ↦ let none : None ≡ Some rest = sym (ap (λ c. cond c (past word t) None) e) ∙ h in cc
    ]

-- One after another

module _ {A : Type 0} where
  pub after_gives : {r : Reader A} {text : A → List ℕ} {Has : A → Type 0} (word : List ℕ) → Gives r text Has → Gives (after word r) (λ a. word ++ text a) Has
  unfolding after
  after_gives {r} {text} {Has} word g = record {
    there = λ t p h.
        let b = bind_parts (past word t) r p h in
        let k = g.there b.0 p b.2 in
        (past_gives word t b.0 b.1 ∙ ap (λ l. word ++ l) k.0 ∙ sym (append_assoc word (text p.0) p.1), k.1);
  }

  pub before_gives : {r : Reader A} {text : A → List ℕ} {Has : A → Type 0} (word : List ℕ) → Gives r text Has → Gives (before r word) (λ a. text a ++ word) Has
  unfolding before
  before_gives {r} {text} {Has} word g = record {
    there = λ t p h.
        let f : A × List ℕ → Option (A × List ℕ) = λ found. option_map (λ (rest : List ℕ). (found.0, rest)) (past word found.1) in
        let b = bind_parts (r t) f p h in
        let m = map_parts (λ (rest : List ℕ). (b.0.0, rest)) (past word b.0.1) p b.2 in
        let k = g.there t b.0 b.1 in
        subst (λ (z : A × List ℕ). (t ≡ (text z.0 ++ word) ++ z.1) × Has z.0) m.2
        (k.0 ∙ ap (λ l. text b.0.0 ++ l) (past_gives word b.0.1 m.0 m.1) ∙ sym (append_assoc (text b.0.0) word m.0), k.1);
  }

  pub passing_gives : {r : Reader A} {text : A → List ℕ} {Has : A → Type 0} (test : A → Bool) → Gives r text Has → Gives (passing test r) text (λ a. Has a × (test a ≡ true))
  unfolding passing
  passing_gives {r} {text} {Has} test g = record {
    there = λ t p h.
        let f : A × List ℕ → Option (A × List ℕ) = λ found. cond (test found.0) (Some found) None in
        let b = bind_parts (r t) f p h in
        elim (cases_Bool (test b.0.0)) [
          | inl e ↦
              let same : b.0 ≡ p = same_Some b.0 p (sym (ap (λ c. cond c (Some b.0) None) e) ∙ b.2) in
              let k = g.there t b.0 b.1 in
              subst (λ (z : A × List ℕ). (t ≡ text z.0 ++ z.1) × (Has z.0 × (test z.0 ≡ true))) same (k.0, (k.1, e))
          | inr e ↦ let none : None ≡ Some p = sym (ap (λ c. cond c (Some b.0) None) e) ∙ b.2 in cc
        ];
  }

module _ {A B : Type 0} where
  pub made_gives : {r : Reader A} {text : A → List ℕ} {Has : A → Type 0} (f : A → B) (text' : B → List ℕ) (Has' : B → Type 0)
      → ((a : A) → text a ≡ text' (f a)) → ((a : A) → Has a → Has' (f a)) → Gives r text Has → Gives (made f r) text' Has'
  unfolding made
  made_gives {r} {text} {Has} f text' Has' same keeps g = record {
    there = λ t p h.
        let m = map_parts (λ (found : A × List ℕ). (f found.0, found.1)) (r t) p h in
        let k = g.there t m.0 m.1 in
        subst (λ (z : B × List ℕ). (t ≡ text' z.0 ++ z.1) × Has' z.0) m.2 (k.0 ∙ ap (λ l. l ++ m.0.1) (same m.0.0), keeps m.0.0 k.1);
  }

  -- a word, and what is made of what follows it
  pub row_gives : {r : Reader A} {text : A → List ℕ} {Has : A → Type 0} (word : List ℕ) (f : A → B) (text' : B → List ℕ) (Has' : B → Type 0)
      → ((a : A) → Has a → (word ++ text a ≡ text' (f a)) × Has' (f a)) → Gives r text Has → Gives (after word (made f r)) text' Has'
  unfolding after made
  row_gives {r} {text} {Has} word f text' Has' same g = record {
    there = λ t p h.
        let b = bind_parts (past word t) (made f r) p h in
        let m = map_parts (λ (found : A × List ℕ). (f found.0, found.1)) (r b.0) p b.2 in
        let k = g.there b.0 m.0 m.1 in
        let e = same m.0.0 k.1 in
        subst (λ (z : B × List ℕ). (t ≡ text' z.0 ++ z.1) × Has' z.0) m.2
        (past_gives word t b.0 b.1 ∙ ap (λ l. word ++ l) k.0 ∙ sym (append_assoc word (text m.0.0) m.0.1) ∙ ap (λ l. l ++ m.0.1) e.0, e.1);
  }

  pub both_gives : {r : Reader A} {q : Reader B} {text : A → List ℕ} {more : B → List ℕ} {Has : A → Type 0} {Has' : B → Type 0}
      → Gives r text Has → Gives q more Has' → Gives (both r q) (λ p. text p.0 ++ more p.1) (λ p. Has p.0 × Has' p.1)
  unfolding both
  both_gives {r} {q} {text} {more} {Has} {Has'} g k = record {
    there = λ t p h.
        let f : A × List ℕ → Option ((A × B) × List ℕ) = λ first. option_map (λ (second : B × List ℕ). ((first.0, second.0), second.1)) (q first.1) in
        let b = bind_parts (r t) f p h in
        let m = map_parts (λ (second : B × List ℕ). ((b.0.0, second.0), second.1)) (q b.0.1) p b.2 in
        let first = g.there t b.0 b.1 in
        let second = k.there b.0.1 m.0 m.1 in
        subst (λ (z : (A × B) × List ℕ). (t ≡ (text z.0.0 ++ more z.0.1) ++ z.1) × (Has z.0.0 × Has' z.0.1)) m.2
        (first.0 ∙ ap (λ l. text b.0.0 ++ l) second.0 ∙ sym (append_assoc (text b.0.0) (more m.0.0) m.0.1), (first.1, second.1));
  }

-- Rows

-- a word alone
pub word_gives : {A : Type 0} (word : List ℕ) (a : A) (text : A → List ℕ) (Has : A → Type 0) → word ≡ text a → Has a → Gives (after word (nothing a)) text Has
unfolding after nothing
word_gives {A} word a text Has same has = record {
  there = λ t p h.
      let b = bind_parts (past word t) (nothing a) p h in
      subst (λ (z : A × List ℕ). (t ≡ text z.0 ++ z.1) × Has z.0) (same_Some (a, b.0) p b.2)
      (past_gives word t b.0 b.1 ∙ ap (λ l. l ++ b.0) same, has);
}

module _ {A : Type 0} (text : A → List ℕ) (Has : A → Type 0) where
  -- a row of a table
  abbrev pub RowGives : Row A → Type 0
  RowGives row = Gives (after row.0 row.1) text Has

  pub choice_gives : (rows : List (Row A)) → AllByRecursion RowGives rows → Gives (choice rows) text Has
  unfolding after
  choice_gives [] all = record { there = λ t p h. cc }
  choice_gives (row ∷ rows) all = record {
    there = λ t p h.
        elim (past row.0 t) as (λ o. past row.0 t ≡ o → chosen o row.1 (choice rows t) ≡ Some p → (t ≡ text p.0 ++ p.1) × Has p.0) [
          | None ↦ λ e k. (choice_gives rows all.1).there t p k
          | Some left ↦ λ e k. all.0.there t p (ap (λ o. o >>= row.1) e ∙ k)
        ] refl h;
  }

  -- the same text in other words
  pub retext_gives : {r : Reader A} {text' : A → List ℕ} {Has' : A → Type 0} → ((a : A) → Has' a → (text' a ≡ text a) × Has a) → Gives r text' Has' → Gives r text Has
  retext_gives same g = record {
    there = λ t p h.
        let k = g.there t p h in
        let e = same p.0 k.1 in
        (k.0 ∙ ap (λ l. l ++ p.1) e.0, e.1);
  }

module _ {W A : Type 0} (text : A → List ℕ) (Has : A → Type 0) (word : W → List ℕ) (rest : W → Reader A) where
  table_rows : ((w : W) → Gives (after (word w) (rest w)) text Has) → (ws : List W) → AllByRecursion (RowGives text Has) (map (λ w. (word w, rest w)) ws)
  table_rows each [] = tt
  table_rows each (w ∷ ws) = (each w, table_rows each ws)

  -- a table of words, each with what follows it
  pub table_gives : ((w : W) → Gives (after (word w) (rest w)) text Has) → (ws : List W) → Gives (choice (map (λ w. (word w, rest w)) ws)) text Has
  table_gives each ws = choice_gives text Has (map (λ w. (word w, rest w)) ws) (table_rows each ws)

-- Names and numbers

pub run_split : (t : List ℕ) → t ≡ run t ++ past_run t
run_split [] = refl
run_split (b ∷ t) =
    elim (continues_identifier b) as (λ c. b ∷ t ≡ cond c (b ∷ run t) [] ++ cond c (past_run t) (b ∷ t)) [
      | true ↦ ap (λ l. b ∷ l) (run_split t)
      | false ↦ refl
    ]

pub below_gives : (bound : ℕ) (word : List ℕ) (n : ℕ) → number_below bound word ≡ Some n → (word ≡ decimal n) × (n < bound)
below_gives bound word n h =
    let v = digits_value 10 word in
    let f : ℕ → Option ℕ = λ m. cond (nat_lt m bound) (Some m) None in
    let b = bind_parts (number_of word) f n h in
    elim (cases_Bool (bytes_eq word (decimal v))) [
      | inl e ↦
          let is : v ≡ b.0 = same_Some v b.0 (sym (ap (λ c. cond c (Some v) None) e) ∙ b.1) in
          elim (cases_Bool (nat_lt b.0 bound)) [
            | inl l ↦
                let same : b.0 ≡ n = same_Some b.0 n (sym (ap (λ c. cond c (Some b.0) None) l) ∙ b.2) in
                ((bytes_eq-Decides word (decimal v)).0 e ∙ ap decimal (is ∙ same), subst (λ m. m < bound) same (ltb-true b.0 bound l))
            | inr l ↦ let none : None ≡ Some n = sym (ap (λ c. cond c (Some b.0) None) l) ∙ b.2 in cc
          ]
      | inr e ↦ let none : None ≡ Some b.0 = sym (ap (λ c. cond c (Some v) None) e) ∙ b.1 in cc
    ]

pub number_gives : (bound : ℕ) → Gives (number_at bound) decimal (λ n. n < bound)
unfolding number_at
number_gives bound = record {
  there = λ t p h.
      let m = map_parts (λ (n : ℕ). (n, past_run t)) (number_below bound (run t)) p h in
      let k = below_gives bound (run t) m.0 m.1 in
      subst (λ (z : ℕ × List ℕ). (t ≡ decimal z.0 ++ z.1) × (z.0 < bound)) m.2 (run_split t ∙ ap (λ l. l ++ past_run t) k.0, k.1);
}

slot : (texts : List (List ℕ)) (n : ℕ) → get_or texts n [] ≡ text_at texts n
slot [] n = refl
slot (t ∷ texts) zero = refl
slot (t ∷ texts) (suc n) = slot texts n

-- the text that a place was found for
pub place_gives : (word : List ℕ) (texts : List (List ℕ)) (n : ℕ) → place_of word texts ≡ Some n → (word ≡ text_at texts n) × (n < length texts)
place_gives word texts n h =
    let k = position-Some (bytes_eq word) texts n [] h in
    ((bytes_eq-Decides word (get_or texts n [])).0 k.1 ∙ slot texts n, k.0)

pub name_gives : (texts : List (List ℕ)) → Gives (name_at texts) (text_at texts) (λ n. n < length texts)
unfolding name_at
name_gives texts = record {
  there = λ t p h.
      let m = map_parts (λ (n : ℕ). (n, past_run t)) (place_of (run t) texts) p h in
      let k = place_gives (run t) texts m.0 m.1 in
      subst (λ (z : ℕ × List ℕ). (t ≡ text_at texts z.0 ++ z.1) × (z.0 < length texts)) m.2 (run_split t ∙ ap (λ l. l ++ past_run t) k.0, k.1);
}

-- Lists

module _ {A : Type 0} {r : Reader A} {text : A → List ℕ} {Has : A → Type 0} (more : List ℕ → Bool) (g : Gives r text Has) where
  up_gives : (n number : ℕ) (t : List ℕ) (p : List A × List ℕ) → up_to n more (λ _. r) number t ≡ Some p → (t ≡ flat_map text p.0 ++ p.1) × AllByRecursion Has p.0
  unfolding nothing
  up_gives zero number t p h = subst (λ (z : List A × List ℕ). (t ≡ flat_map text z.0 ++ z.1) × AllByRecursion Has z.0) (same_Some ([], t) p h) (refl, tt)
  up_gives (suc n) number t p h =
      let next : A × List ℕ → Option (List A × List ℕ) = λ first. option_map (λ (rest : List A × List ℕ). (first.0 ∷ rest.0, rest.1)) (up_to n more (λ _. r) (number + 1) first.1) in
      elim (cases_Bool (more t)) [
        | inl e ↦
            let b = bind_parts (r t) next p (sym (ap (λ c. cond c (r t >>= next) (Some ([], t))) e) ∙ h) in
            let m = map_parts (λ (rest : List A × List ℕ). (b.0.0 ∷ rest.0, rest.1)) (up_to n more (λ _. r) (number + 1) b.0.1) p b.2 in
            let first = g.there t b.0 b.1 in
            let rest = up_gives n (number + 1) b.0.1 m.0 m.1 in
            subst (λ (z : List A × List ℕ). (t ≡ flat_map text z.0 ++ z.1) × AllByRecursion Has z.0) m.2
            (first.0 ∙ ap (λ l. text b.0.0 ++ l) rest.0 ∙ sym (append_assoc (text b.0.0) (flat_map text m.0.0) m.0.1), (first.1, rest.1))
        | inr e ↦
            let none : Some ([], t) ≡ Some p = sym (ap (λ c. cond c (r t >>= next) (Some ([], t))) e) ∙ h in
            subst (λ (z : List A × List ℕ). (t ≡ flat_map text z.0 ++ z.1) × AllByRecursion Has z.0) (same_Some ([], t) p none) (refl, tt)
      ]

  pub numbered_gives : Gives (numbered more (λ _. r)) (flat_map text) (AllByRecursion Has)
  unfolding numbered
  numbered_gives = record { there = λ t p h. up_gives (length t) 0 t p h }
