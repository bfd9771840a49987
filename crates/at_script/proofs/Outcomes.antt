-- What is found of several operands: the value of each, or the first cause that any of them has.
use Rattle.std.proofs.Common.{◌≡◌, refl, Bool, true, false, cond, ◌||◌, Option, Some, None}
use Rattle.at_script.specs.declared.fault.Cause as cause
use Rattle.at_script.specs.declared.fault.Cause.TheVariants as causes
use Rattle.at_script.specs.Reading.{unless, both_of}
use Rattle.at_script.specs.Taking.{mapped}

-- the first of these causes that there is
abbrev pub chosen : Bool → Bool → Bool → Bool → Bool → Option cause.Cause
chosen number name class func limit =
    cond number (Some causes.Number) (cond name (Some causes.Name) (cond class (Some causes.Class) (cond func (Some causes.Func) (cond limit (Some causes.Limit) None))))

-- a value that is made of another fails as the other does
pub mapped_unless : {A B : Type 0} (f : A → B) (o : Option cause.Cause) (x : A) → mapped f (unless o x) ≡ unless o (f x)
mapped_unless f None x = refl
mapped_unless f (Some c) x = refl

-- both values, or the first cause of either
pub both_chosen : {A B : Type 0} (x : A) (y : B) (n m c f l n' m' c' f' l' : Bool)
    → both_of (unless (chosen n m c f l) x) (unless (chosen n' m' c' f' l') y) ≡ unless (chosen (n || n') (m || m') (c || c') (f || f') (l || l')) (x, y)
both_chosen x y true m c f l true m' c' f' l' = refl
both_chosen x y true m c f l false true c' f' l' = refl
both_chosen x y true m c f l false false true f' l' = refl
both_chosen x y true m c f l false false false true l' = refl
both_chosen x y true m c f l false false false false true = refl
both_chosen x y true m c f l false false false false false = refl
both_chosen x y false true c f l true m' c' f' l' = refl
both_chosen x y false true c f l false true c' f' l' = refl
both_chosen x y false true c f l false false true f' l' = refl
both_chosen x y false true c f l false false false true l' = refl
both_chosen x y false true c f l false false false false true = refl
both_chosen x y false true c f l false false false false false = refl
both_chosen x y false false true f l true m' c' f' l' = refl
both_chosen x y false false true f l false true c' f' l' = refl
both_chosen x y false false true f l false false true f' l' = refl
both_chosen x y false false true f l false false false true l' = refl
both_chosen x y false false true f l false false false false true = refl
both_chosen x y false false true f l false false false false false = refl
both_chosen x y false false false true l true m' c' f' l' = refl
both_chosen x y false false false true l false true c' f' l' = refl
both_chosen x y false false false true l false false true f' l' = refl
both_chosen x y false false false true l false false false true l' = refl
both_chosen x y false false false true l false false false false true = refl
both_chosen x y false false false true l false false false false false = refl
both_chosen x y false false false false true true m' c' f' l' = refl
both_chosen x y false false false false true false true c' f' l' = refl
both_chosen x y false false false false true false false true f' l' = refl
both_chosen x y false false false false true false false false true l' = refl
both_chosen x y false false false false true false false false false true = refl
both_chosen x y false false false false true false false false false false = refl
both_chosen x y false false false false false true m' c' f' l' = refl
both_chosen x y false false false false false false true c' f' l' = refl
both_chosen x y false false false false false false false true f' l' = refl
both_chosen x y false false false false false false false false true l' = refl
both_chosen x y false false false false false false false false false true = refl
both_chosen x y false false false false false false false false false false = refl
