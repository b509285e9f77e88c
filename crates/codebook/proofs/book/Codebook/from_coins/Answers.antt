use Rattle.std.proofs.Common.{◌≡◌, Some, Ok, Err, sym, ap, ◌∙◌}
use Rattle.std.proofs.lemmas.Result.{IfOk-at_ok}
use Rattle.formats.specs.Shapes.{form}
use Rattle.coins.specs.Boxes.{making}
use Rattle.coins.specs.Sboxes.{entries, boxed}
use Rattle.coins.proofs.Passes.{passed_ok, passed_err, lacking}
use Rattle.coins.proofs.Swaps.{counted_ok, counted_err}
use Rattle.coins.proofs.Takes.{leaves}
use Rattle.codebook.specs.Books.{in_book}
use Rattle.codebook.specs.Calls.{box_permutes}
use Rattle.codebook.specs.Codebooks.{booked}
use Rattle.codebook.specs.Numbers.{few_codes}
use Rattle.codebook.proofs.Makings.{too_many_told, count_is, making_many, making_told}
use Rattle.codebook.proofs.book.Codebook.from_coins.Goals as goal

pub returns-in_err-count-clause-value : goal.returns-in_err-count-clause-value
returns-in_err-count-clause-value g c =
    let coins = g.C.Coins.waiting c.args.coins.now in
    let l = lacking c.count_codes.result c.own.result c.from_residual.result c.in_err-count.field-0.0 c.in_err-count.ensures.value c.from_residual.ensures.1 in
    let refused = making_many (form c.args.shape.now) coins (too_many_told (form c.args.shape.now) (l.0 ∙ c.count_codes.ensures)) in
    ap booked (l.1 ∙ ap Err c.own.ensures) ∙ ap (λ o. o.answer) (sym refused)

pub returns-in_err-count-clause-after : goal.returns-in_err-count-clause-after
returns-in_err-count-clause-after g c =
    let coins = g.C.Coins.waiting c.args.coins.now in
    let l = lacking c.count_codes.result c.own.result c.from_residual.result c.in_err-count.field-0.0 c.in_err-count.ensures.value c.from_residual.ensures.1 in
    sym (leaves coins (making_many (form c.args.shape.now) coins (too_many_told (form c.args.shape.now) (l.0 ∙ c.count_codes.ensures))))

pub returns-in_err-sbox-clause-value : goal.returns-in_err-sbox-clause-value
returns-in_err-sbox-clause-value g c =
    let f = form c.args.shape.now in
    let coins = g.C.Coins.waiting c.args.coins.now in
    let n = c.in_ok-count.count in
    let few : Some n ≡ few_codes f = sym c.in_ok-count.ensures.ok_part ∙ c.count_codes.ensures in
    let p = passed_err c.shuffled.result c.map_err.result c.from_residual-in_err-sbox.result c.in_err-sbox.field-0.0 c.in_err-sbox.was c.map_err.ensures.cases c.from_residual-in_err-sbox.ensures.1 in
    let done = counted_err (making n coins) p.0 (ap boxed p.1 ∙ c.shuffled.ensures.value) in
    ap booked p.2 ∙ ap (λ o. in_book f o.answer) (sym done) ∙ ap (λ o. o.answer) (making_told f coins n few)

pub returns-in_err-sbox-clause-after : goal.returns-in_err-sbox-clause-after
returns-in_err-sbox-clause-after g c =
    let f = form c.args.shape.now in
    let coins = g.C.Coins.waiting c.args.coins.now in
    let few : Some c.in_ok-count.count ≡ few_codes f = sym c.in_ok-count.ensures.ok_part ∙ c.count_codes.ensures in
    c.shuffled.ensures.after ∙ leaves coins (making_told f coins c.in_ok-count.count few)

pub invariant_of-result : goal.invariant_of-result
invariant_of-result g c =
    let f = form c.args.shape.now in
    let few : Some c.in_ok-count.count ≡ few_codes f = sym c.in_ok-count.ensures.ok_part ∙ c.count_codes.ensures in
    let did = passed_ok c.shuffled.result c.map_err.result (c.in_ok-sbox.sbox, c.in_ok-sbox.field-0-1) c.in_ok-sbox.was c.map_err.ensures.cases in
    let radix = IfOk-at_ok (λ drawn. drawn.0.radix ≡ c.in_ok-count.count) (sym did) c.shuffled.ensures.radix in
    record { whole = radix ∙ count_is f c.in_ok-count.count few c.alphabet.ensures c.len.ensures }

pub returns : goal.returns
returns g c =
    let f = form c.args.shape.now in
    let coins = g.C.Coins.waiting c.args.coins.now in
    let n = c.in_ok-count.count in
    let few : Some n ≡ few_codes f = sym c.in_ok-count.ensures.ok_part ∙ c.count_codes.ensures in
    let x = c.in_ok-sbox.sbox in
    let did = passed_ok c.shuffled.result c.map_err.result (x, c.in_ok-sbox.field-0-1) c.in_ok-sbox.was c.map_err.ensures.cases in
    let radix = IfOk-at_ok (λ drawn. drawn.0.radix ≡ n) (sym did) c.shuffled.ensures.radix in
    let told = making_told f coins n few in
    let made = counted_ok (making n coins) (entries x) c.in_ok-sbox.field-0-1 (ap boxed did ∙ c.shuffled.ensures.value) in
    record {
      value =
          ap (λ a. Ok (record { alphabet = a; len = c.len.result; table = entries x })) c.alphabet.ensures ∙
          ap (λ n. Ok (record { alphabet = f.alphabet; len = n; table = entries x })) c.len.ensures ∙
          ap (λ o. in_book f o.answer) (sym made) ∙ ap (λ o. o.answer) told;
      after = c.shuffled.ensures.after ∙ leaves coins told;
      sound = box_permutes x (radix ∙ count_is f n few c.alphabet.ensures c.len.ensures);
    }
