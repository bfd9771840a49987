-- The text of a run is read back, so that it is the text of no other.
use Rattle.std.proofs.Common.{◌≡◌, ◌∙◌, ap, refl, sym, ℕ, zero, suc, ◌<◌, arith, List, [], ◌∷◌, length, map, slice_get, Option, Some, None, is_some, bytes_eq, false}
use Rattle.std.proofs.lemmas.Bool.{false_from_ne_true}
use Rattle.std.proofs.lemmas.Option.{some_pair_parts}
use Rattle.std.proofs.lemmas.Slice.Eq.{bytes_eq-Decides}
use Rattle.at_name.specs.Texts.{place_of}
use Rattle.at_model.specs.declared.last.Final.{Final}
use Rattle.at_line.specs.Types.{Line}
use Rattle.at_script.specs.Parts.{ScriptParts}
use Rattle.at_script.specs.Laws.{AreIdentifiers, AreToldApart, NamesAreToldApart, ScriptsAreShort}
use Rattle.at_text.specs.Words as words
use Rattle.at_text.specs.Values.{text_at}
use Rattle.at_text.specs.Bare.{bare_line}
use Rattle.at_text.specs.ReadLast.{run_of}
use Rattle.at_text.specs.Laws.{TextIsOneToOne}
use Rattle.at_text.proofs.ReaderLaws.{IsKnown, AreKnown}
use Rattle.at_text.proofs.ValueReads.{IsTold}
use Rattle.at_text.proofs.LastReads.{run_back}

text_there : (texts : List (List ℕ)) (n : ℕ) → n < length texts → slice_get texts n ≡ Some (text_at texts n)
text_there [] n h = absurd (omega arith)
text_there (t ∷ texts) zero h = refl
text_there (t ∷ texts) (suc n) h = text_there texts n (omega arith)

are_known : (texts : List (List ℕ)) → AreIdentifiers texts → AreKnown texts
are_known texts are n h = let k = are n (text_at texts n) (text_there texts n h) in record { form = k.0; place = k.1 }

-- a text that isn't there is no text that is
not_there : (word : List ℕ) (texts : List (List ℕ)) (n : ℕ) → place_of word texts ≡ None → IsKnown texts n → bytes_eq (text_at texts n) word ≡ false
not_there word texts n absent known =
    false_from_ne_true (bytes_eq (text_at texts n) word) (λ same.
    let none : Some n ≡ None = sym known.place ∙ ap (λ w. place_of w texts) ((bytes_eq-Decides (text_at texts n) word).0 same) ∙ absent in
    cc)

pub told : (s : ScriptParts) → AreToldApart s → IsTold s
told s a =
    let classes = are_known s.classes a.classes in
    let funcs = are_known s.funcs a.funcs in
    record {
      names = are_known s.names a.names;
      classes = classes;
      vars = are_known s.vars a.vars;
      funcs = funcs;
      no_class = λ c h. not_there words.none_word s.classes c a.none_class (classes c h);
      no_func = λ f h. not_there words.none_word s.funcs f a.none_func (funcs f h);
      apart = λ c h. a.apart (text_at s.classes c) (ap is_some (classes c h).place);
    }

same_parts : (script other : List ℕ) (lines more : List Line) (last end : Final) → ◌≡◌ {A = Option (List ℕ × (List Line × Final))} (Some (script, (lines, last))) (Some (other, (more, end)))
    → (script ≡ other) × (lines ≡ more) × (last ≡ end)
same_parts script other lines more last end e =
    let both = some_pair_parts script other (lines, last) (more, end) e in
    (both.0, ap (λ (p : List Line × Final). p.0) both.1, ap (λ (p : List Line × Final). p.1) both.1)

pub one_to_one : NamesAreToldApart → ScriptsAreShort → TextIsOneToOne
one_to_one apart short script other s t lines more last end h k e =
    let few = short script s h.read in
    let fewer = short other t k.read in
    same_parts script other (map bare_line lines) (map bare_line more) last end
    (sym (run_back script s lines last (omega arith) (told s (apart script s h.read)) h) ∙ ap run_of e ∙ run_back other t more end (omega arith) (told t (apart other t k.read)) k)
