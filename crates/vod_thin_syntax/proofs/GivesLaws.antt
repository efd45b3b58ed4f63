-- A call that ends with the refusal of another one.
use Rattle.std.proofs.Common.{◌≡◌, List, Result, Err, subst}
use Rattle.vod_thin_syntax.specs.Reader.{Read, Refused}
use Rattle.vod_thin_syntax.specs.State.{Gives}
use Rattle.vod_thin_syntax.specs.Syntax.{Mark}
use Rattle.vod_thin_syntax.specs.declared.reader.Stop.{Stop}
use Rattle.vod_thin_syntax.specs.declared.reader.Stop.TheVariants as stop

stop_gives : {S T A B : Type 0} (inner : S → A) (outer : T → B) (e : Stop) (rest : List Mark) (read : Read A) (whole : Read B)
    → Gives inner (Err e) rest read → ((us : List Mark) → read ≡ Refused us → whole ≡ Refused us) → Gives outer (Err e) rest whole
stop_gives inner outer stop.Refused rest read whole h more = more rest h
stop_gives inner outer stop.Memory rest read whole h more = tt

pub refusal_gives : {S T A B : Type 0} (inner : S → A) (outer : T → B) (r : Result T Stop) (e f : Stop) (rest : List Mark) (read : Read A) (whole : Read B)
    → r ≡ Err e → e ≡ f → Gives inner (Err f) rest read → ((us : List Mark) → read ≡ Refused us → whole ≡ Refused us) → Gives outer r rest whole
refusal_gives {S} {T} {A} {B} inner outer r e f rest read whole p q h more =
    let same : Err f ≡ r = cc in
    subst (λ v. Gives outer v rest whole) same (stop_gives inner outer f rest read whole h more)

pub refused_gives : {T A : Type 0} (view : T → A) (e : Stop) (rest : List Mark) (read : Read A) → e ≡ stop.Refused → Gives view (Err e) rest read → read ≡ Refused rest
refused_gives view stop.Refused rest read e h = h
refused_gives view stop.Memory rest read e h = cc
