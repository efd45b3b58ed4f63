use Rattle.std.proofs.Common.{◌≡◌, ap, sym, ◌∙◌}
use Rattle.std.proofs.lemmas.Bool.Decides.{Decides-eqb}
use Rattle.vod_bits.proofs.Views.{number-view, widths-view}
use Rattle.vod_bits.specs.Value.{bits_of, number_of}
use Rattle.vod_bits.proofs.Bits.eq.Goals as goal

pub returns : goal.returns
returns c =
    let widths : c.self.inside.width ≡ c.other.inside.width
    = widths-view c.self.inside.width c.other.inside.width c.self.inside.word c.other.inside.word c.args.self c.args.other c.self.view_is c.other.view_is c.requires in (
      (λ e. let words : c.self.inside.word ≡ c.other.inside.word = (Decides-eqb c.self.inside.word c.other.inside.word).0 e in
          let mine : bits_of c.self.inside.width c.self.inside.word ≡ c.args.self = c.self.view_is in
          let theirs : bits_of c.other.inside.width c.other.inside.word ≡ c.args.other = c.other.view_is in
          cc),
      (λ e. (Decides-eqb c.self.inside.word c.other.inside.word).1 (sym (number-view c.self.inside.width c.self.inside.word c.args.self c.self.invariant.2 c.self.view_is) ∙ ap number_of e ∙ (number-view c.other.inside.width c.other.inside.word c.args.other c.other.invariant.2 c.other.view_is))),
    )
