-- The design of a module without a fault is the one that is made of it.
use Rattle.std.proofs.Common.{◌≡◌, ℕ, List, [], ◌∷◌, Option, None, Some, refl, sym, ◌∙◌, subst}
use Rattle.vod_thin_design.specs.Names.{HasPlainNames}
use Rattle.vod_thin_syntax.specs.Limit.{sooner, limit_of}
use Rattle.vod_thin_syntax.specs.Syntax.{printed}
use Rattle.vod_thin.specs.Rules.{least, faults}
use Rattle.vod_thin.proofs.Designs.{reads_by}
use Rattle.vod_thin.proofs.Made.{made}
use Rattle.vod_thin.proofs.read.plain_names.Goals as goal

none_later : (a b : Option ℕ) → sooner a b ≡ None → b ≡ None
none_later None b e = e
none_later (Some p) None e = cc
none_later (Some p) (Some q) e = cc

no_places : (ps : List ℕ) → least ps ≡ None → ps ≡ []
no_places [] e = refl
no_places (p ∷ ps) e = some p (least ps) e
  where
    some : {A : Type 0} (p : ℕ) (b : Option ℕ) → sooner (Some p) b ≡ None → A
    some p None e = cc
    some p (Some q) e = cc

pub returns : goal.returns
returns c = λ source d short thin.
    let laws = reads_by c.expr_by_operands.ensures.signal c.expr_by_operands.ensures.inverted c.expr_by_operands.ensures.and c.expr_by_operands.ensures.xor c.expr_by_operands.ensures.or in
    let none : faults (printed thin.tree) ≡ [] = no_places (faults (printed thin.tree)) (none_later (limit_of source thin.tokens) (least (faults (printed thin.tree))) thin.faultless) in
    let it = made laws c.one_token.ensures.some source thin.tokens thin.tree _ _ short thin.reads (c.names_are_identifiers.ensures.plain source thin.tokens thin.tree thin.reads) none refl refl in
    subst HasPlainNames (it.is ∙ sym thin.design) it.plain
