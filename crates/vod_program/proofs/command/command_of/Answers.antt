use Rattle.std.proofs.Common.{◌≡◌, ◌∷◌, [], List, ℕ, map, length, string_bytes, sym, subst, ap, ◌∙◌, arith, codes, get_or}
use Rattle.std.proofs.lemmas.List.{length-map}
use Rattle.std.proofs.lemmas.Slice.Eq.{bytes_eq-Decides}
use Rattle.vod_program.specs.Command.{IsTime}
use Rattle.vod_program.proofs.CommandLaws.{map_at, two_words, three_words, four_words, no_times}
use Rattle.vod_program.proofs.command.command_of.Goals as goal

pub returns-in-len2 : goal.returns-in-len2
returns-in-len2 c =
    let words = c.args.words.now in
    let count : length words ≡ 2 = omega (arith, c.in-len2.len_at_least, c.in-len2.len_below) in
    let mapped : length (map string_bytes words) ≡ 2 = rw length-map count in
    let first = map_at string_bytes words 0 c.action-item.result [] (omega (arith, count)) c.action-item.is in
    two_words (map string_bytes words) (codes "dump") mapped (first ∙ sym c.as_str.ensures.value ∙ (bytes_eq-Decides _ _).0 (sym c.is.ensures ∙ c.if-is.true))

pub returns-in-len3 : goal.returns-in-len3
returns-in-len3 c =
    let words = c.args.words.now in
    let count : length words ≡ 3 = omega (arith, c.in-len3.len_at_least, c.in-len3.len_below) in
    let mapped : length (map string_bytes words) ≡ 3 = rw length-map count in
    let first = map_at string_bytes words 0 c.action-item-then-words-lt4.result [] (omega (arith, count)) c.action-item-then-words-lt4.is in
    three_words (map string_bytes words) (codes "record") mapped (first ∙ sym c.as_str-then-words-lt4.ensures.value ∙ (bytes_eq-Decides _ _).0 (sym c.is-then-words-lt4.ensures ∙ c.if-is-2.true))

pub returns-in-Some : goal.returns-in-Some
returns-in-Some c =
    let words = c.args.words.now in
    let count : length words ≡ 4 = omega (arith, c.in-len4.len_at_least, c.in-len4.len_below) in
    let mapped : length (map string_bytes words) ≡ 4 = rw length-map count in
    let first = map_at string_bytes words 0 c.action-item-then-words-lt5.result [] (omega (arith, count)) c.action-item-then-words-lt5.is in
    let from = c.as_str-in-len4.ensures.value ∙ sym (map_at string_bytes words 2 c.from-item.result [] (omega (arith, count)) c.from-item.is) in
    let to = c.as_str-in-len4-2.ensures.value ∙ sym (map_at string_bytes words 3 c.to-item.result [] (omega (arith, count)) c.to-item.is) in
    let all = four_words (map string_bytes words) (codes "window") mapped (first ∙ sym c.as_str-then-words-lt5.ensures.value ∙ (bytes_eq-Decides _ _).0 (sym c.is-then-words-lt5.ensures ∙ c.if-is-3.true)) in
    let times = c.in-Some.ensures in (
      all.0,
      get_or (map string_bytes words) 2 [],
      get_or (map string_bytes words) 3 [],
      all.1,
      subst (λ t. IsTime t c.in-Some.window.from) from times.0,
      subst (λ t. IsTime t c.in-Some.window.to) to times.1,
    )

pub returns-in-None : goal.returns-in-None
returns-in-None c =
    let words = c.args.words.now in
    let count : length words ≡ 4 = omega (arith, c.in-len4.len_at_least, c.in-len4.len_below) in
    let mapped : length (map string_bytes words) ≡ 4 = rw length-map count in
    let from = c.as_str-in-len4.ensures.value ∙ sym (map_at string_bytes words 2 c.from-item.result [] (omega (arith, count)) c.from-item.is) in
    let to = c.as_str-in-len4-2.ensures.value ∙ sym (map_at string_bytes words 3 c.to-item.result [] (omega (arith, count)) c.to-item.is) in
    no_times (map string_bytes words) mapped
    (λ a b ta tb. c.in-None.ensures a b (subst (λ t. IsTime t a) (sym from) ta) (subst (λ t. IsTime t b) (sym to) tb))
