-- Texts, and what is first wrong with each.
use Rattle.std.specs.Prelude.{ℕ, List, [], ◌∷◌, Option, Some, None, codes}
use Rattle.at_script.specs.declared.fault.Cause.{Cause}
use Rattle.at_script.specs.declared.fault.Cause.TheVariants.{Byte, Header, Word, Place, Form, Number, Name, Class, Func, End}

abbrev pub offences : List (List ℕ × Option (ℕ × Cause))
offences =
    (codes "", Some (1, Header))
    ∷ (codes "attrs 9", Some (1, Header))
    ∷ (codes "attrs 1", Some (2, End))
    ∷ (codes "attrs 1\nmain\nend", None)
    ∷ (codes "attrs 1\nbudget 0\nmain\nend\n", Some (2, Number))
    ∷ (codes "attrs 1\nmain\njump a.x\nend\n", Some (3, Word))
    ∷ (codes "attrs 1\nmain\nfunc f\n", Some (3, Place))
    ∷ (codes "attrs 1\nmain\nset a.x 2147483648\nend\n", Some (3, Number))
    ∷ (codes "attrs 1\nmain\nset a.x 2147483647\nend\n", None)
    ∷ (codes "attrs 1\nmain\nput D.x 1\nend\n", Some (3, Class))
    ∷ (codes "attrs 1\nmain\nput D.x 1\nclass D\nend\n", None)
    ∷ (codes "attrs 1\nmain\nclass C\nput C.x static:f\nend\n", Some (4, Func))
    ∷ (codes "attrs 1\nmain\nclass C\nnew C C\nend\n", Some (4, Name))
    ∷ (codes "attrs 1\nmain\nclass C\nput C.__class__ 1\nend\n", Some (4, Name))
    ∷ (codes "attrs 1\nmain\nend\nend\n", Some (4, Place))
    ∷ (codes "attrs 1\nmain\nbegin a\nend\n", Some (4, Place))
    ∷ (codes "attrs 1\nmain\n# \u{7}\nend\n", Some (3, Byte))
    ∷ (codes "attrs 1\nmain\nget a.\nend\n", Some (3, Form))
    ∷ (codes "attrs 1\nfunc f\nreturn \"x\"\nend\nmain\n#\nend\nthread\nlet a prop:f,-,f\nend\nfinally\nget a.x\nend\n", None)
    ∷ []
