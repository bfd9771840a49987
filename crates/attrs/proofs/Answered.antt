-- What is so at the answers of a call.
use Rattle.std.proofs.Common.{◌≡◌, ap, sym, ℕ, List, [], ◌∷◌, map, length, get_or, Some, arith, inl, inr}
use Rattle.at_line.specs.declared.line.Line.{Line}
use Rattle.at_model.specs.declared.last.Final as final
use Rattle.at_script.specs.Parts.{ScriptParts}
use Rattle.at_script.specs.Script.{script_of}
use Rattle.attrs.specs.declared.status.Status as status
use Rattle.attrs.specs.declared.status.Status.TheVariants as statuses
use Rattle.attrs.specs.Answers.{Running, SourceChange, SinkChange, ReadAll, IsAnswer, IsTextAnswer, IsTextOf, IsTranscript, IsPlainAndLegal}
use Rattle.at_run.specs.PlainRun.{IsPlainRun}
use Rattle.at_run.specs.LegalRun.{IsLegalRun}

-- an answer to what was read to its end
pub answered : (Runs : Running) (r : SourceChange) (w : SinkChange) (bytes : List ℕ) (s : status.Status) → ReadAll r bytes → IsTextAnswer Runs bytes w s → IsAnswer Runs r w s
answered Runs r w bytes statuses.Good read answer = (bytes, read, answer)
answered Runs r w bytes (statuses.Refused line cause) read answer = (bytes, read, answer)
answered Runs r w bytes statuses.TooLong read answer = absurd answer
answered Runs r w bytes statuses.Usage read answer = absurd answer
answered Runs r w bytes statuses.NoMemory read answer = (read.2, answer)
answered Runs r w bytes statuses.ReadFault read answer = absurd answer
answered Runs r w bytes statuses.WriteFault read answer = inl (bytes, read, answer)

-- What is a run of a script in one sense is one in another at each answer, where it is so of every script that bytes write.
module _ (Runs Others : Running) (so : (bytes : List ℕ) (s : ScriptParts) (lines : List Line) (last : final.Final) → script_of bytes ≡ Some s → Runs s lines last → Others s lines last) where
  transcript_so : (bytes written : List ℕ) → IsTranscript Runs bytes written → IsTranscript Others bytes written
  transcript_so bytes written t = (t.0, t.1, t.2, t.3, so bytes t.0 t.1 t.2 t.3 t.4, t.5)

  text_so : (bytes written : List ℕ) → IsTextOf Runs bytes written → IsTextOf Others bytes written
  text_so bytes written (inl t) = inl (transcript_so bytes written t)
  text_so bytes written (inr refused) = inr refused

  answer_so : (r : SourceChange) (w : SinkChange) (s : status.Status) → IsAnswer Runs r w s → IsAnswer Others r w s
  answer_so r w statuses.Good (bytes, read, (written, t, wrote)) = (bytes, read, (written, transcript_so bytes written t, wrote))
  answer_so r w (statuses.Refused line cause) answer = answer
  answer_so r w statuses.TooLong answer = answer
  answer_so r w statuses.Usage answer = answer
  answer_so r w statuses.NoMemory answer = answer
  answer_so r w statuses.ReadFault answer = answer
  answer_so r w statuses.WriteFault (inl (bytes, read, (written, t, failed))) = inl (bytes, read, (written, text_so bytes written t, failed))
  answer_so r w statuses.WriteFault (inr long) = inr long

-- what is both is each
pub plain_of : (r : SourceChange) (w : SinkChange) (s : status.Status) → IsAnswer IsPlainAndLegal r w s → IsAnswer IsPlainRun r w s
plain_of r w s = answer_so IsPlainAndLegal IsPlainRun (λ bytes p lines last is both. both.0) r w s

pub legal_of : (r : SourceChange) (w : SinkChange) (s : status.Status) → IsAnswer IsPlainAndLegal r w s → IsAnswer IsLegalRun r w s
legal_of r w s = answer_so IsPlainAndLegal IsLegalRun (λ bytes p lines last is both. both.1) r w s

-- the one of a list
pub lone : {X Y : Type 0} (f : X → Y) (xs : List X) (x : X) → length xs ≡ 1 → x ≡ get_or xs 0 x → map f xs ≡ f x ∷ []
lone f [] x one at = absurd (omega (arith, one))
lone f (y ∷ []) x one at = ap (λ z. f z ∷ []) (sym at)
lone f (y ∷ z ∷ ys) x one at = absurd (omega (arith, one))

-- the first of a list of texts
abbrev pub head_or : List (List ℕ) → List ℕ
head_or [] = []
head_or (x ∷ xs) = x
