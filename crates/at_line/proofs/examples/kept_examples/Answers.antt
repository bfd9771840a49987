use Rattle.std.proofs.Common.{◌≡◌, ℕ, zero, suc, List, [], ◌∷◌, sym, rules, arith}
use Rattle.std.specs.Prelude.{All, Contains}
use Rattle.std.proofs.lemmas.List.Elements.{All-from_recursion}
use Rattle.at_model.specs.World.{opening}
use Rattle.at_value.specs.declared.operation.Op as op
use Rattle.at_line.specs.declared.line.Line.{Line}
use Rattle.at_line.specs.Kept.{LeavesAlone, IsKeptLine, writes_beside}
use Rattle.at_line.specs.KeptExamples.{other_written, other_written_history, written_once_ended, written_at_begin, written_at_begin_history, suspended_inside, suspended_inside_history, two_sections, owner_written, object_written_history, other_class_set, class_set_history, classes_written, classes_written_history, value_written, value_written_history, end_alone}
use Rattle.at_line.proofs.Each.{each_after-from_recursion}
use Rattle.at_line.proofs.examples.kept_examples.Goals as goal

only : (a o : ℕ) → Contains (a ∷ []) o → o ≡ a
only a o (zero, within, is) = sym is
only a o (suc k, within, is) = absurd (omega arith)

only_twice : (a o : ℕ) → Contains (a ∷ a ∷ []) o → o ≡ a
only_twice a o (zero, within, is) = sym is
only_twice a o (suc zero, within, is) = sym is
only_twice a o (suc (suc k), within, is) = absurd (omega arith)

none : (o : ℕ) → Contains [] o → ⊥
none o (k, within, is) = absurd (omega arith)

-- the writes of the other threads leave an object alone from a place up to another
abbrev Alone : List op.Op → List Line → ℕ → ℕ → ℕ → ℕ → Type 0
Alone history lines thread begun ended o = All (LeavesAlone opening history begun ended (o ∷ [])) (writes_beside thread lines)

pub returns-clause-histories : goal.returns-clause-histories
returns-clause-histories c = (search rules, search rules, search rules, search rules, search rules, search rules, search rules)

-- the section over the first object, from place 3 to 4, while the second object is written
other_alone : Alone other_written_history other_written 1 3 4 0
other_alone =
    All-from_recursion (LeavesAlone opening other_written_history 3 4 (0 ∷ [])) (writes_beside 1 other_written)
    (λ past. absurd (omega arith), (λ past. absurd (omega arith), (λ past. absurd (omega arith), (λ past before o has touched. absurd (omega (arith, only 0 o has, only_twice 1 o touched)), tt))))

pub returns-clause-other : goal.returns-clause-other
returns-clause-other c = each_after-from_recursion (IsKeptLine opening other_written_history other_written) other_written (tt, (tt, (tt, (tt, (tt, (other_alone, (tt, tt)))))))

-- the inner section ends where it begins, and the outer one is over the first object
inner_alone : Alone other_written_history written_once_ended 1 3 3 1
inner_alone =
    All-from_recursion (LeavesAlone opening other_written_history 3 3 (1 ∷ [])) (writes_beside 1 written_once_ended)
    (λ past. absurd (omega arith), (λ past. absurd (omega arith), (λ past. absurd (omega arith), (λ past before. absurd (omega arith), tt))))

outer_alone : Alone other_written_history written_once_ended 1 3 4 0
outer_alone =
    All-from_recursion (LeavesAlone opening other_written_history 3 4 (0 ∷ [])) (writes_beside 1 written_once_ended)
    (λ past. absurd (omega arith), (λ past. absurd (omega arith), (λ past. absurd (omega arith), (λ past before o has touched. absurd (omega (arith, only 0 o has, only_twice 1 o touched)), tt))))

pub returns-clause-ended : goal.returns-clause-ended
returns-clause-ended c = each_after-from_recursion (IsKeptLine opening other_written_history written_once_ended) written_once_ended
    (tt, (tt, (tt, (tt, (tt, (inner_alone, (outer_alone, (tt, tt))))))))

-- the write at place 4 isn't past the begin, and the one at place 5 is of the second object
later_alone : Alone written_at_begin_history written_at_begin 1 4 5 0
later_alone =
    All-from_recursion (LeavesAlone opening written_at_begin_history 4 5 (0 ∷ [])) (writes_beside 1 written_at_begin)
    (λ past. absurd (omega arith), (λ past. absurd (omega arith), (λ past. absurd (omega arith), (λ past. absurd (omega arith), (λ past before o has touched. absurd (omega (arith, only 0 o has, only_twice 1 o touched)), tt)))))

pub returns-clause-at_begin : goal.returns-clause-at_begin
returns-clause-at_begin c = each_after-from_recursion (IsKeptLine opening written_at_begin_history written_at_begin) written_at_begin
    (tt, (tt, (tt, (tt, (later_alone, (tt, (tt, tt)))))))

-- the outer section, over the second object
around_alone : Alone suspended_inside_history suspended_inside 1 3 4 1
around_alone =
    All-from_recursion (LeavesAlone opening suspended_inside_history 3 4 (1 ∷ [])) (writes_beside 1 suspended_inside)
    (λ past. absurd (omega arith), (λ past. absurd (omega arith), (λ past. absurd (omega arith), (λ past before o has touched. absurd (omega (arith, only 1 o has, only_twice 0 o touched)), tt))))

pub returns-clause-suspended : goal.returns-clause-suspended
returns-clause-suspended c = each_after-from_recursion (IsKeptLine opening suspended_inside_history suspended_inside) suspended_inside
    (tt, (tt, (tt, (tt, (tt, (tt, (around_alone, (tt, tt))))))))

first_alone : Alone other_written_history two_sections 1 3 4 0
first_alone =
    All-from_recursion (LeavesAlone opening other_written_history 3 4 (0 ∷ [])) (writes_beside 1 two_sections)
    (λ past. absurd (omega arith), (λ past. absurd (omega arith), (λ past. absurd (omega arith), (λ past before o has touched. absurd (omega (arith, only 0 o has, only_twice 1 o touched)), tt))))

-- beside the second thread there are the writes of `main` alone
second_alone : Alone other_written_history two_sections 2 3 4 1
second_alone =
    All-from_recursion (LeavesAlone opening other_written_history 3 4 (1 ∷ [])) (writes_beside 2 two_sections)
    (λ past. absurd (omega arith), (λ past. absurd (omega arith), (λ past. absurd (omega arith), tt)))

pub returns-clause-threads : goal.returns-clause-threads
returns-clause-threads c = each_after-from_recursion (IsKeptLine opening other_written_history two_sections) two_sections
    (tt, (tt, (tt, (tt, (tt, (first_alone, (tt, (second_alone, tt))))))))

-- the write touches the first object, and the dictionary of its name
shared_alone : Alone object_written_history owner_written 1 4 5 1
shared_alone =
    All-from_recursion (LeavesAlone opening object_written_history 4 5 (1 ∷ [])) (writes_beside 1 owner_written)
    (λ past. absurd (omega arith), (λ past. absurd (omega arith), (λ past. absurd (omega arith), (λ past. absurd (omega arith), (λ past before o has touched. absurd (omega (arith, only 1 o has, only_twice 0 o touched)), tt)))))

pub returns-clause-owner : goal.returns-clause-owner
returns-clause-owner c = each_after-from_recursion (IsKeptLine opening object_written_history owner_written) owner_written
    (tt, (tt, (tt, (tt, (tt, (shared_alone, (tt, tt)))))))

-- the write touches the second object alone
class_alone : Alone class_set_history other_class_set 1 4 5 0
class_alone =
    All-from_recursion (LeavesAlone opening class_set_history 4 5 (0 ∷ [])) (writes_beside 1 other_class_set)
    (λ past. absurd (omega arith), (λ past. absurd (omega arith), (λ past. absurd (omega arith), (λ past. absurd (omega arith), (λ past before o has touched. absurd (omega (arith, only 0 o has, only 1 o touched)), tt)))))

pub returns-clause-class : goal.returns-clause-class
returns-clause-class c = each_after-from_recursion (IsKeptLine opening class_set_history other_class_set) other_class_set
    (tt, (tt, (tt, (tt, (tt, (class_alone, (tt, tt)))))))

pub returns-clause-histories_more : goal.returns-clause-histories_more
returns-clause-histories_more c = (search rules, search rules, search rules)

-- writes of classes, and the making of an object, touch no rows
both_alone : All (LeavesAlone opening classes_written_history 3 8 (0 ∷ 1 ∷ [])) (writes_beside 1 classes_written)
both_alone =
    All-from_recursion (LeavesAlone opening classes_written_history 3 8 (0 ∷ 1 ∷ [])) (writes_beside 1 classes_written)
    (λ past. absurd (omega arith), (λ past. absurd (omega arith), (λ past. absurd (omega arith), (λ past before o has touched. absurd (none o touched), (λ past before o has touched. absurd (none o touched), (λ past before o has touched. absurd (none o touched), (λ past before o has touched. absurd (none o touched), (λ past before o has touched. absurd (none o touched), tt))))))))

pub returns-clause-classes : goal.returns-clause-classes
returns-clause-classes c = each_after-from_recursion (IsKeptLine opening classes_written_history classes_written) classes_written
    (tt, (tt, (tt, (tt, (both_alone, (tt, (tt, (tt, (tt, (tt, tt))))))))))

-- the write touches the second object, and not the first, which is the value
value_alone : Alone value_written_history value_written 1 3 4 0
value_alone =
    All-from_recursion (LeavesAlone opening value_written_history 3 4 (0 ∷ [])) (writes_beside 1 value_written)
    (λ past. absurd (omega arith), (λ past. absurd (omega arith), (λ past. absurd (omega arith), (λ past before o has touched. absurd (omega (arith, only 0 o has, only_twice 1 o touched)), tt))))

pub returns-clause-value : goal.returns-clause-value
returns-clause-value c = each_after-from_recursion (IsKeptLine opening value_written_history value_written) value_written (tt, (tt, (tt, (tt, (value_alone, (tt, tt))))))

pub returns-clause-alone : goal.returns-clause-alone
returns-clause-alone c = each_after-from_recursion (IsKeptLine opening other_written_history end_alone) end_alone (tt, (tt, (tt, (tt, (tt, tt)))))
