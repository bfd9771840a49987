-- What the lines of a text declare, line by line and together.
use Rattle.std.proofs.Common.{◌≡◌, ◌∙◌, ap, refl, ℕ, List, [], ◌∷◌, Option, Some, None, codes}
use Rattle.std.specs.Option.{option_to_list}
use Rattle.std.specs.List.{cons_option}
use Rattle.at_script.specs.Lines.{words_in}
use Rattle.at_script.specs.Texts.{Texts, with_text, with_texts, declared_by, declared_in, texts_of}
use Rattle.at_script.specs.Reading.{with_declared, with_all_declared, no_texts}

abbrev lists : List (List ℕ) → List (List ℕ) → Texts → Texts
lists classes funcs t = record t { classes = with_texts t.classes classes; funcs = with_texts t.funcs funcs }

with_more : (texts : List (List ℕ)) (o : Option (List ℕ)) (more : List (List ℕ)) → with_texts (with_texts texts (option_to_list o)) more ≡ with_texts texts (cons_option o more)
with_more texts None more = refl
with_more texts (Some text) more = refl

pub declared_together : (lines : List (List ℕ)) (t : Texts) → with_all_declared t lines ≡ lists (declared_in (codes "class") lines) (declared_in (codes "func") lines) t
declared_together [] t = refl
declared_together (line ∷ lines) t =
    declared_together lines (with_declared t (words_in line))
    ∙ ap (λ (cs : List (List ℕ)). record t { classes = cs; funcs = with_texts (with_texts t.funcs (option_to_list (declared_by (codes "func") (words_in line)))) (declared_in (codes "func") lines) }) (with_more t.classes (declared_by (codes "class") (words_in line)) (declared_in (codes "class") lines))
    ∙ ap (λ (fs : List (List ℕ)). record t { classes = with_texts t.classes (declared_in (codes "class") (line ∷ lines)); funcs = fs }) (with_more t.funcs (declared_by (codes "func") (words_in line)) (declared_in (codes "func") lines))

-- from `object` on
pub declared_from_object : (lines : List (List ℕ)) (t u : Texts) → t ≡ no_texts → u ≡ record t { classes = with_text t.classes (codes "object") } → with_all_declared u lines ≡ texts_of lines
declared_from_object lines t u none object =
    ap (λ v. with_all_declared v lines) (object ∙ ap (λ (v : Texts). record v { classes = with_text v.classes (codes "object") }) none)
    ∙ declared_together lines (record no_texts { classes = with_text [] (codes "object") })
