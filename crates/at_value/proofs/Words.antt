-- Reading the word of a value gives the value, and what is read from a word has that word.
use Rattle.std.proofs.Common.{ℕ, ℤ, zero, suc, pos, negsuc, ◌≡◌, ◌<◌, ◌+◌, ◌*◌, ◌^◌, ◌/◌, ◌%◌, ◌==◌, ◌↔◌, nat_lt, ◌&&◌, Bool, true, false, if◌then◌else◌, Option, Some, None, subst, refl, ◌∙◌, arith}
use Rattle.std.specs.Prelude.{option_map, FitsSigned, IfSome, IfNone}
use Rattle.std.specs.Int.{w32, cast_unsigned, cast_signed}
use Rattle.std.proofs.lemmas.Bool.Decides.{nat_tests}
use Rattle.std.proofs.lemmas.Int.{to_z-of_z, of_z-to_z}
use Rattle.std.proofs.Math.Facts.{sfits_to_z}
use Rattle.std.proofs.lemmas.Nat.{shr_high, mod_low, div-add-mod'}
use Rattle.at_value.specs.declared.value.Value as value
use Rattle.at_value.specs.declared.value.Value.TheVariants as values
use Rattle.at_value.specs.Parts.{PropertyParts, part, held, IsPart}
use Rattle.at_value.specs.Properties.{held-part}
use Rattle.at_value.specs.Widths.{names, objects, classes, functions, kind_bits, integer_bits, part_bits}
use Rattle.at_value.specs.Fields.{FitWord}
use Rattle.at_value.specs.Words.{IsValue, fields_of, word_of, HasWord}
use Rattle.at_value.proofs.Maps.{below_tells}
use Rattle.at_value.specs.Reading.{below, parts_at, value_at_kind, value_in_word}

-- A choice that gave x: a goal from the branch that gave it.
chosen : {V P : Type 0} (test : Bool) (this other : Option V) (x : V) → (if test then this else other) ≡ Some x
    → (test ≡ true → this ≡ Some x → P) → (test ≡ false → other ≡ Some x → P) → P
chosen true this other x e by_this by_other = by_this refl e
chosen false this other x e by_this by_other = by_other refl e

both : (a b : Bool) → (a && b) ≡ true → (a ≡ true) × (b ≡ true)
both true b h = (refl, h)
both false b h = absurd (cc)

test_true : (m n : ℕ) → (m == n) ≡ true → m ≡ n
test_true m n h = grind (arith, nat_tests)

below_true : (m n : ℕ) → nat_lt m n ≡ true → m < n
below_true m n h = grind (arith, nat_tests)

-- what is below the bound is given
pub below_gives : (bound n : ℕ) → n < bound → below bound n ≡ Some n
below_gives bound n lt = let test = (below_tells n bound lt).0 in rw test refl

-- what was made of a number below the bound
below_made : {V : Type 0} (make : ℕ → V) (bound n : ℕ) (x : V) → option_map make (below bound n) ≡ Some x → (n < bound) × (make n ≡ x)
below_made make bound n x e = elim (nat_lt n bound) as (λ t. nat_lt n bound ≡ t → option_map make (if t then Some n else None) ≡ Some x → (n < bound) × (make n ≡ x)) [
  | true ↦ λ test e'. (below_true n bound test, cc)
  | false ↦ λ test e'. absurd (cc)
] refl e

-- a part is that of the number that holds it
pub part-held : (o : Option ℕ) → part (held o) ≡ o
part-held None = refl
part-held (Some f) = refl

held_within : (o : Option ℕ) → IsPart o → held o < suc functions
held_within None h = omega arith
held_within (Some f) h = omega arith

IsPart-part : (n : ℕ) → n < suc functions → IsPart (part n)
IsPart-part zero h = tt
IsPart-part (suc f) h = omega arith

-- the bits of an integer
bits_within : (z : ℤ) → FitsSigned w32 z → cast_unsigned w32 z < 2 ^ integer_bits
bits_within (pos n) h = grind arith
bits_within (negsuc n) h = omega arith

-- the parts of a property, in one number and back
parts_back : (p : PropertyParts) → IsPart p.get × IsPart p.set × IsPart p.del → parts_at ((held p.del * 2 ^ part_bits + held p.set) * 2 ^ part_bits + held p.get) ≡ Some p
parts_back p h =
    let g = held_within p.get h.0 in
    let s = held_within p.set h.1 in
    let d = held_within p.del h.2 in
    let get_small : held p.get < 2 ^ part_bits = omega arith in
    let set_small : held p.set < 2 ^ part_bits = omega arith in
    let low = mod_low (held p.del * 2 ^ part_bits + held p.set) part_bits (held p.get) get_small in
    let high = shr_high (held p.del * 2 ^ part_bits + held p.set) part_bits (held p.get) get_small in
    let low' = mod_low (held p.del) part_bits (held p.set) set_small in
    let high' = shr_high (held p.del) part_bits (held p.set) set_small in
    rw (low, high, low', high', (below_tells _ _ g).0, (below_tells _ _ s).0, (below_tells _ _ d).0, part-held p.get, part-held p.set, part-held p.del) refl

parts_made : (n : ℕ) (p : PropertyParts) → parts_at n ≡ Some p → (IsPart p.get × IsPart p.set × IsPart p.del) × ((held p.del * 2 ^ part_bits + held p.set) * 2 ^ part_bits + held p.get ≡ n)
parts_made n p e =
    let P : PropertyParts → Type 0 = λ q. (IsPart q.get × IsPart q.set × IsPart q.del) × ((held q.del * 2 ^ part_bits + held q.set) * 2 ^ part_bits + held q.get ≡ n) in
    chosen _ _ None p e
    (λ all made.
    let two = both _ _ all in
    let one = both _ _ two.0 in
    let get_part = IsPart-part (n % 2 ^ part_bits) (below_true _ _ one.0) in
    let set_part = IsPart-part (n / 2 ^ part_bits % 2 ^ part_bits) (below_true _ _ one.1) in
    let del_part = IsPart-part (n / 2 ^ part_bits / 2 ^ part_bits) (below_true _ _ two.1) in
    let read : PropertyParts = record { get = part (n % 2 ^ part_bits); set = part (n / 2 ^ part_bits % 2 ^ part_bits); del = part (n / 2 ^ part_bits / 2 ^ part_bits) } in
    let same : read ≡ p = cc in
    let number : (held read.del * 2 ^ part_bits + held read.set) * 2 ^ part_bits + held read.get ≡ n =
    rw (held-part (n % 2 ^ part_bits), held-part (n / 2 ^ part_bits % 2 ^ part_bits), held-part (n / 2 ^ part_bits / 2 ^ part_bits), div-add-mod' (n / 2 ^ part_bits) (2 ^ part_bits)) (div-add-mod' n (2 ^ part_bits))
    in
    subst P same ((get_part, set_part, del_part), number))
    (λ _ none. absurd (cc))

-- a value's kind, and the number above it in the word
kind_and_rest : (w r k : ℕ) → k < 2 ^ kind_bits → r * 2 ^ kind_bits + k ≡ w → (w % 2 ^ kind_bits ≡ k) × (w / 2 ^ kind_bits ≡ r)
kind_and_rest w r k lt e = rw (← e) (mod_low r kind_bits k lt, shr_high r kind_bits k lt)

-- the word of a value in range is read as that value
word_back : (v : value.Value) → IsValue v → (w : ℕ) → word_of v ≡ w → value_at_kind (w % 2 ^ kind_bits) (w / 2 ^ kind_bits) ≡ Some v
word_back values.Nothing h w e = let s = kind_and_rest w 0 1 (omega arith) (omega arith) in rw (s.0, s.1) refl
word_back (values.Int i) h w e =
    let s = kind_and_rest w (cast_unsigned w32 i) 2 (omega arith) (omega arith) in
    rw (s.0, s.1, below_gives (2 ^ integer_bits) (cast_unsigned w32 i) (bits_within i h), to_z-of_z w32 i h) refl
word_back (values.Text n) h w e = let s = kind_and_rest w n 3 (omega arith) (omega arith) in rw (s.0, s.1, below_gives names n h) refl
word_back (values.Func f) h w e = let s = kind_and_rest w f 4 (omega arith) (omega arith) in rw (s.0, s.1, below_gives functions f h) refl
word_back (values.Prop p) h w e =
    let s = kind_and_rest w ((held p.del * 2 ^ part_bits + held p.set) * 2 ^ part_bits + held p.get) 5 (omega arith) (omega arith) in
    rw (s.0, s.1, parts_back p h) refl
word_back (values.Static f) h w e = let s = kind_and_rest w f 6 (omega arith) (omega arith) in rw (s.0, s.1, below_gives functions f h) refl
word_back (values.ClassM f) h w e = let s = kind_and_rest w f 7 (omega arith) (omega arith) in rw (s.0, s.1, below_gives functions f h) refl
word_back (values.Class c) h w e = let s = kind_and_rest w c 8 (omega arith) (omega arith) in rw (s.0, s.1, below_gives classes c h) refl
word_back (values.Obj o) h w e = let s = kind_and_rest w o 9 (omega arith) (omega arith) in rw (s.0, s.1, below_gives objects o h) refl

-- what is read is a value in range, with that word
abbrev IsRead : ℕ → ℕ → value.Value → Type 0
IsRead kind rest v = IsValue v × (word_of v ≡ rest * 2 ^ kind_bits + kind)

read_made : (make : ℕ → value.Value) (bound kind rest : ℕ) (v : value.Value)
    → (rest < bound → IsRead kind rest (make rest)) → option_map make (below bound rest) ≡ Some v → IsRead kind rest v
read_made make bound kind rest v good e =
    let made = below_made make bound rest v e in
    let P : value.Value → Type 0 = λ u. IsRead kind rest u in
    subst P made.1 (good made.0)

property_read : (rest kind : ℕ) (v : value.Value) → kind ≡ 5 → option_map values.Prop (parts_at rest) ≡ Some v → IsRead kind rest v
property_read rest kind v k e = elim (parts_at rest) as (λ o. parts_at rest ≡ o → option_map values.Prop o ≡ Some v → IsRead kind rest v) [
  | Some p ↦ λ made e'.
      let read = parts_made rest p made in
      let P : value.Value → Type 0 = λ u. IsRead kind rest u in
      let same : values.Prop p ≡ v = cc in
      let good : IsRead kind rest (values.Prop p) = (read.0, omega (arith, read.1)) in
      subst P same good
  | None ↦ λ made e'. absurd (cc)
] refl e

word_read : (kind rest : ℕ) (v : value.Value) → value_at_kind kind rest ≡ Some v → IsRead kind rest v
word_read kind rest v e =
    chosen (kind == 1) _ _ v e
    (λ is made. let k = test_true kind 1 is in read_made (λ _. values.Nothing) 1 kind rest v (λ lt. (tt, omega arith)) made)
    (λ _ e.
    chosen (kind == 2) _ _ v e
    (λ is made. let k = test_true kind 2 is in read_made (λ n. values.Int (cast_signed w32 n)) (2 ^ integer_bits) kind rest v (λ lt. (sfits_to_z {w = w32} {n = rest} (record { fits = lt }), let bits = of_z-to_z w32 rest lt in omega arith)) made)
    (λ _ e.
    chosen (kind == 3) _ _ v e
    (λ is made. let k = test_true kind 3 is in read_made values.Text names kind rest v (λ lt. (lt, omega arith)) made)
    (λ _ e.
    chosen (kind == 4) _ _ v e
    (λ is made. let k = test_true kind 4 is in read_made values.Func functions kind rest v (λ lt. (lt, omega arith)) made)
    (λ _ e.
    chosen (kind == 5) _ _ v e
    (λ is made. property_read rest kind v (test_true kind 5 is) made)
    (λ _ e.
    chosen (kind == 6) _ _ v e
    (λ is made. let k = test_true kind 6 is in read_made values.Static functions kind rest v (λ lt. (lt, omega arith)) made)
    (λ _ e.
    chosen (kind == 7) _ _ v e
    (λ is made. let k = test_true kind 7 is in read_made values.ClassM functions kind rest v (λ lt. (lt, omega arith)) made)
    (λ _ e.
    chosen (kind == 8) _ _ v e
    (λ is made. let k = test_true kind 8 is in read_made values.Class classes kind rest v (λ lt. (lt, omega arith)) made)
    (λ _ e.
    chosen (kind == 9) _ _ v e
    (λ is made. let k = test_true kind 9 is in read_made values.Obj objects kind rest v (λ lt. (lt, omega arith)) made)
    (λ _ e.
    absurd (cc))))))))))

-- what is true exactly of what an option gives is true of that
pub at_some : {V : Type 0} (P : V → Type 0) (o : Option V) → ((x : V) → (o ≡ Some x) ↔ P x) → IfSome o P
at_some P None same = tt
at_some P (Some x) same = (same x).0 refl

-- and of nothing, where the option gives nothing
pub at_none : {V : Type 0} (P : V → Type 0) (o : Option V) → ((x : V) → (o ≡ Some x) ↔ P x) → IfNone o ((x : V) → ¬ P x)
at_none P None same = λ x h. absurd (let got = (same x).1 h in cc)
at_none P (Some x) same = tt

pub word_exact : (w : ℕ) (v : value.Value) → (value_in_word w ≡ Some v) ↔ HasWord v w
word_exact w v =
    (λ e. let read = word_read (w % 2 ^ kind_bits) (w / 2 ^ kind_bits) v e in (read.0, read.1 ∙ div-add-mod' w (2 ^ kind_bits)), λ h. word_back v h.0 w h.1)

-- two values in range with one word are one
pub one_value : (u v : value.Value) → IsValue u → IsValue v → word_of u ≡ word_of v → u ≡ v
one_value u v u_fits v_fits same =
    let first = (word_exact (word_of v) u).1 (u_fits, same) in
    let second = (word_exact (word_of v) v).1 (v_fits, refl) in
    cc

-- each number of a value in range fits into its field, and all fields into the word
pub value_fits : (v : value.Value) → IsValue v → FitWord (fields_of v)
value_fits values.Nothing h = ((omega arith, tt), omega arith)
value_fits (values.Int i) h = ((omega arith, (bits_within i h, tt)), omega arith)
value_fits (values.Text n) h = ((omega arith, (omega arith, tt)), omega arith)
value_fits (values.Func f) h = ((omega arith, (omega arith, tt)), omega arith)
value_fits (values.Prop p) h =
    let get = held_within p.get h.0 in
    let set = held_within p.set h.1 in
    let del = held_within p.del h.2 in
    ((omega arith, (omega arith, (omega arith, (omega arith, tt)))), omega arith)
value_fits (values.Static f) h = ((omega arith, (omega arith, tt)), omega arith)
value_fits (values.ClassM f) h = ((omega arith, (omega arith, tt)), omega arith)
value_fits (values.Class c) h = ((omega arith, (omega arith, tt)), omega arith)
value_fits (values.Obj o) h = ((omega arith, (omega arith, tt)), omega arith)
