-- Each answer of `dump`, from what its phases say.
use Rattle.std.proofs.Common.{◌≡◌, ℕ, List, Err, refl, sym, subst, inl, inr}
use Rattle.vod_io.specs.Told.{Told, Tells}
use Rattle.vod_thin_design.specs.declared.thin.Vector.{Vector}
use Rattle.vod_thin_design.specs.Netlist.{Netlist}
use Rattle.vod_thin_design.specs.Vectors.{IsLawful}
use Rattle.vod_thin_script.specs.Script.{IsScript, IsRefused}
use Rattle.vod_thin_window.specs.declared.window.WindowFault.{WindowFault}
use Rattle.vod_thin_window.specs.declared.window.WindowFault.TheVariants as fault
use Rattle.vod_thin_window.specs.Request.{Request, dump_of, IsBegun}
use Rattle.vod_program.specs.declared.status.Fault.{Fault}
use Rattle.vod_program.specs.declared.status.Fault.TheVariants as failed
use Rattle.vod_program.specs.declared.status.Part.TheVariants as part
use Rattle.vod_program.specs.Sources.{IsSource, IsUnrecordable}
use Rattle.vod_program.specs.Phases.{window_fault, Fails}
use Rattle.vod_program.specs.Answer.{Inputs, Output, IsRisen, HasDesign, HasNoDesign, HasNoVectors, HasNoRecording, AsksFor, DumpAnswers}

pub no_design : (i : Inputs) (out : Output) (f : Fault) → Fails part.Design f (HasNoDesign i) → (f ≡ failed.Read → IsRisen i.design_faults) → out.after ≡ out.before → DumpAnswers i out (Err f)
no_design i out f (inl e) read same = subst (λ v. DumpAnswers i out (Err v)) (sym e) (inl (read e))
no_design i out f (inr (inl e)) read same = subst (λ v. DumpAnswers i out (Err v)) (sym e) (inl same)
no_design i out f (inr (inr (place, e, refused))) read same = subst (λ v. DumpAnswers i out (Err v)) (sym e) refused

pub no_vectors : (i : Inputs) (out : Output) (f : Fault) → HasDesign i → Fails part.Script f (HasNoVectors i) → (f ≡ failed.Read → IsRisen i.input_faults) → out.after ≡ out.before → DumpAnswers i out (Err f)
no_vectors i out f design (inl e) read same = subst (λ v. DumpAnswers i out (Err v)) (sym e) (inr (design, read e))
no_vectors i out f design (inr (inl e)) read same = subst (λ v. DumpAnswers i out (Err v)) (sym e) (inl same)
no_vectors i out f design (inr (inr (line, e, refused))) read same = subst (λ v. DumpAnswers i out (Err v)) (sym e) (design, refused)

pub no_dump : (i : Inputs) (out : Output) (f : WindowFault) → (f ≡ fault.Write → IsRisen out.faults) → AsksFor i (λ r. IsBegun r (dump_of r) out.before out.after) → DumpAnswers i out (Err (window_fault f))
no_dump i out fault.Write write begun = (write refl, begun)
no_dump i out fault.Memory write begun = inr begun

pub design_told : (i : Inputs) (source : List ℕ) (d : Netlist) → Told i.source source → IsSource source d → HasDesign i
design_told i source d told is = λ bytes e. (d, subst (λ b. IsSource b d) (sym (told bytes e)) is)

-- the source's design has no vectors in the script, or none that are recorded
pub script_refused : (i : Inputs) (source : List ℕ) (d : Netlist) (f : Fault) → Told i.source source → IsSource source d → Fails part.Script f (λ line. Tells i.script (λ text. IsRefused d text line)) → Fails part.Script f (HasNoVectors i)
script_refused i source d f told is (inl e) = inl e
script_refused i source d f told is (inr (inl e)) = inr (inl e)
script_refused i source d f told is (inr (inr (line, e, none))) = inr (inr (line, e, λ bytes b text t. (d, subst (λ s. IsSource s d) (sym (told bytes b)) is, none text t)))

pub script_unrecordable : (i : Inputs) (source : List ℕ) (d : Netlist) (f : Fault) → Told i.source source → IsSource source d → Fails part.Script f (λ line. Tells i.script (λ text. IsUnrecordable d text line)) → Fails part.Script f (HasNoRecording i)
script_unrecordable i source d f told is (inl e) = inl e
script_unrecordable i source d f told is (inr (inl e)) = inr (inl e)
script_unrecordable i source d f told is (inr (inr (line, e, none))) = inr (inr (line, e, λ bytes b text t. (d, subst (λ s. IsSource s d) (sym (told bytes b)) is, none text t)))

-- a source, a design and vectors
abbrev pub request : List ℕ → Netlist → List Vector → Request
request source d vs = record { source = source; design = d; vectors = vs }

-- what is asked for
pub asked : (i : Inputs) (P : Request → Type 0) (source : List ℕ) (d : Netlist) (vs : List Vector) → Told i.source source → IsSource source d → Tells i.script (λ text. IsScript d text vs) → IsLawful d vs →
    P (request source d vs) → AsksFor i P
asked i P source d vs told is reads lawful holds = (
  request source d vs,
  record { source = λ bytes e. sym (told bytes e); script = reads; design = is; lawful = lawful },
  holds,
)

-- the same, of a source, a design and vectors that are equal
pub same_request : (P : Request → Type 0) (a b : List ℕ) (d : Netlist) (vs ws : List Vector) → a ≡ b → vs ≡ ws → P (request a d vs) → P (request b d ws)
same_request P a b d vs ws sources vectors p = subst (λ x. P (request b d x)) vectors (subst (λ x. P (request x d vs)) sources p)
