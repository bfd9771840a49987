-- How each answer of a call comes about, and what is written with it.
use Rattle.std.specs.Prelude.{ℕ, ◌≡◌, ◌+◌, ◌<◌, ◌⊎◌, List, ◌++◌, length, Bool, Option, Some, IsTrue, codes, decimal}
use Rattle.std.specs.Io.KnownBytes.{append_known}
use Rattle.at_source.specs.Faults.{Rose}
use Rattle.at_source.specs.Whole.{GaveAll, GaveFirst, GaveFewer, GrewByPrefix}
use Rattle.at_script.specs.declared.fault.Cause as cause
use Rattle.at_script.specs.declared.fault.Cause.TheVariants as causes
use Rattle.at_script.specs.Limits.{most_bytes}
use Rattle.at_script.specs.Parts.{ScriptParts}
use Rattle.at_script.specs.Script.{script_of, first_offence}
use Rattle.at_text.specs.Transcript.{text}
use Rattle.at_line.specs.declared.line.Line.{Line}
use Rattle.at_model.specs.declared.last.Final as final
use Rattle.at_run.specs.PlainRun.{IsPlainRun}
use Rattle.at_run.specs.LegalRun.{IsLegalRun}
use Rattle.attrs.specs.declared.status.Status as status
use Rattle.attrs.specs.declared.status.Status.TheVariants as statuses

-- The texts

abbrev pub cause_word : cause.Cause → List ℕ
cause_word causes.Byte = codes "byte"
cause_word causes.Header = codes "header"
cause_word causes.Word = codes "word"
cause_word causes.Place = codes "place"
cause_word causes.Form = codes "form"
cause_word causes.Number = codes "number"
cause_word causes.Name = codes "name"
cause_word causes.Class = codes "class"
cause_word causes.Func = codes "func"
cause_word causes.Limit = codes "limit"
cause_word causes.End = codes "end"

-- why the bytes are no script
abbrev pub refusal_text : ℕ → cause.Cause → List ℕ
refusal_text line cause = codes "refused " ++ decimal line ++ codes " " ++ cause_word cause ++ codes "\n"

abbrev pub too_long_text : List ℕ
too_long_text = codes "refused 0 long\n"

abbrev pub usage_text : List ℕ
usage_text = codes "usage: attrs run or plain or make SEED COUNT\n"

-- The ends of a call

-- What is seen of a source over a call: the bytes still to come, where its content is known, and how often it failed.
pub record SourceChange : Type 0 where
  pub before : Option (List ℕ)
  pub after : Option (List ℕ)
  pub faults_before : ℕ
  pub faults_after : ℕ

abbrev pub source_change : {S : Type 0} → (S → Option (List ℕ)) → (S → ℕ) → S → S → SourceChange
source_change left faults old new = record {
  before = left old;
  after = left new;
  faults_before = faults old;
  faults_after = faults new;
}

-- What is seen of a sink over a call: what was written, where its content is known, whether all of it is flushed at last,
-- and how often it failed.
pub record SinkChange : Type 0 where
  pub before : Option (List ℕ)
  pub after : Option (List ℕ)
  pub is_flushed : Bool
  pub faults_before : ℕ
  pub faults_after : ℕ

abbrev pub sink_change : {K : Type 0} → (K → Option (List ℕ)) → (K → Bool) → (K → ℕ) → K → K → SinkChange
sink_change written is_flushed faults old new = record {
  before = written old;
  after = written new;
  is_flushed = is_flushed new;
  faults_before = faults old;
  faults_after = faults new;
}

-- one byte more than a script may have
abbrev pub too_many : ℕ
too_many = most_bytes + 1

-- the source gave these bytes to its end, at most as many as a script may have, and didn't fail
abbrev pub ReadAll : SourceChange → List ℕ → Type 0
ReadAll r bytes = GaveAll r.before r.after bytes × (length bytes < too_many) × (r.faults_after ≡ r.faults_before)

-- the source gave more bytes than a script may have, and didn't fail
abbrev pub ReadTooMany : SourceChange → Type 0
ReadTooMany r = GaveFirst too_many r.before r.after × (r.faults_after ≡ r.faults_before)

-- the source failed
abbrev pub FailedReading : SourceChange → Type 0
FailedReading r = Rose r.faults_before r.faults_after × GaveFewer too_many r.before r.after

-- nothing was read, and the source didn't fail
abbrev pub ReadNothing : SourceChange → Type 0
ReadNothing r = (r.after ≡ r.before) × (r.faults_after ≡ r.faults_before)

-- all the text was written and is flushed, and the sink didn't fail
abbrev pub Wrote : SinkChange → List ℕ → Type 0
Wrote w bytes = (w.after ≡ append_known w.before bytes) × IsTrue w.is_flushed × (w.faults_after ≡ w.faults_before)

-- the sink failed, and a prefix of the text was written
abbrev pub FailedWriting : SinkChange → List ℕ → Type 0
FailedWriting w bytes = Rose w.faults_before w.faults_after × GrewByPrefix w.before w.after bytes

-- nothing was written, and the sink didn't fail
abbrev pub WroteNothing : SinkChange → Type 0
WroteNothing w = (w.after ≡ w.before) × (w.faults_after ≡ w.faults_before)

-- The answers

-- which lines and last namespaces are a run of a script
abbrev pub Running : Type 1
Running = ScriptParts → List Line → final.Final → Type 0

-- the plain run of a script, where it is legal
abbrev pub IsPlainAndLegal : Running
IsPlainAndLegal s lines last = IsPlainRun s lines last × IsLegalRun s lines last

-- the text is the transcript of a run of the script that the bytes are
abbrev pub IsTranscript : Running → List ℕ → List ℕ → Type 0
IsTranscript Runs bytes written =
    (s : ScriptParts) × (lines : List Line) × (last : final.Final) ×
    (script_of bytes ≡ Some s) × Runs s lines last × (written ≡ text bytes s lines last)

-- the text says what is first wrong with the bytes
abbrev pub IsRefusal : List ℕ → List ℕ → Type 0
IsRefusal bytes written =
    (line : ℕ) × (cause : cause.Cause) × (first_offence bytes ≡ Some (line, cause)) × (written ≡ refusal_text line cause)

-- the text that is written for an input which was read to its end: the transcript of a run, or what is first wrong with it
abbrev pub IsTextOf : Running → List ℕ → List ℕ → Type 0
IsTextOf Runs bytes written = IsTranscript Runs bytes written ⊎ IsRefusal bytes written

-- What is so at each answer to an input that was read to its end.
abbrev pub IsTextAnswer : Running → List ℕ → SinkChange → status.Status → Type 0
IsTextAnswer Runs bytes w statuses.Good = (written : List ℕ) × IsTranscript Runs bytes written × Wrote w written
IsTextAnswer Runs bytes w (statuses.Refused line cause) =
    (first_offence bytes ≡ Some (line, cause)) × Wrote w (refusal_text line cause)
IsTextAnswer Runs bytes w statuses.NoMemory = WroteNothing w
IsTextAnswer Runs bytes w statuses.WriteFault = (written : List ℕ) × IsTextOf Runs bytes written × FailedWriting w written
IsTextAnswer Runs bytes w statuses.TooLong = ⊥
IsTextAnswer Runs bytes w statuses.Usage = ⊥
IsTextAnswer Runs bytes w statuses.ReadFault = ⊥

-- What is so at each answer to a script that is read and run: the transcript is written whole where the source gave a
-- script to its end; it is refused where what the source gave to its end is no script, and, as too long, where the source
-- gave more bytes than a script may have. A text that was written whole is flushed, and then neither end failed; a fault is
-- answered exactly where the count of the source or the sink rose. Out of memory alone has no cause; then, and at a fault
-- of the source, nothing is written.
abbrev pub IsAnswer : Running → SourceChange → SinkChange → status.Status → Type 0
IsAnswer Runs r w statuses.Good = (bytes : List ℕ) × ReadAll r bytes × IsTextAnswer Runs bytes w statuses.Good
IsAnswer Runs r w (statuses.Refused line cause) =
    (bytes : List ℕ) × ReadAll r bytes × IsTextAnswer Runs bytes w (statuses.Refused line cause)
IsAnswer Runs r w statuses.TooLong = ReadTooMany r × Wrote w too_long_text
IsAnswer Runs r w statuses.Usage = ⊥
IsAnswer Runs r w statuses.NoMemory = (r.faults_after ≡ r.faults_before) × WroteNothing w
IsAnswer Runs r w statuses.ReadFault = FailedReading r × WroteNothing w
IsAnswer Runs r w statuses.WriteFault =
    ((bytes : List ℕ) × ReadAll r bytes × IsTextAnswer Runs bytes w statuses.WriteFault)
    ⊎ (ReadTooMany r × FailedWriting w too_long_text)

-- what is so at each answer to words that are no command: nothing is read, and the usage line is written
abbrev pub IsUsageAnswer : SourceChange → SinkChange → status.Status → Type 0
IsUsageAnswer r w statuses.Usage = ReadNothing r × Wrote w usage_text
IsUsageAnswer r w statuses.WriteFault = ReadNothing r × FailedWriting w usage_text
IsUsageAnswer r w _ = ⊥

-- what is so where the words, for which memory may be refused, are no command
abbrev pub IsNoCommandAnswer : SourceChange → SinkChange → status.Status → Type 0
IsNoCommandAnswer r w said = IsUsageAnswer r w said ⊎ ((said ≡ statuses.NoMemory) × ReadNothing r × WroteNothing w)
