use Rattle.std.proofs.Common.{rules, sym, ap, ◌∙◌, Some, ◌≡◌, ℕ, vec_items, get_or, inl, inr, ⊎_elim, Ok, Err}
use Rattle.std.proofs.lemmas.Result.{IfOk-at_ok, IfErr-at_err}
use Rattle.lines.specs.Texts.{texts}
use Rattle.script.specs.Drives.{numbers}
use Rattle.script.proofs.Numbers.{all_said, first_unsaid, at_word, related, read_by}
use Rattle.script.proofs.drive.all_numbers.Goals as goal

pub returns : goal.returns
returns c =
    let words = c.args.words.now in
    let part = c.args.part in
    read_by c.try_collect.result (numbers part (texts words))
    (λ v e.
    let whole = IfOk-at_ok _ e c.try_collect.ensures.runs in
    let p = whole.0 in
    let mapped = c.map.ensures.runs p p.seen whole.1 in
    let q = mapped.0 in
    let read = c.iter.ensures.runs q q.seen in
    let from : q.from.rest.now ≡ words = search rules in
    let calls = mapped.2.2 (λ x y z call. search rules) in
    let list = whole.3 (λ xs v x w a b. search rules) in
    let held : vec_items v ≡ list.0 = search rules in
    all_said part words list.0 (search rules) (λ k l d.
    at_word part (λ x y call. search rules) (λ y. Ok (get_or list.0 k 0) ≡ y) (p.at k) (q.at k) (get_or words k d) (calls.0 k) (read.2 k d (search rules) ∙ ap (λ xs. Some (get_or xs k d)) from) (related _ (p.at k) (get_or list.0 k 0) (list.3 k 0 (search rules)))) ∙ ap Ok (sym held))
    (λ e f. ⊎_elim
    (λ full. inl full.1)
    (λ some.
    let p = some.0 in
    let mapped = c.map.ensures.runs p p.seen some.1 in
    let q = mapped.0 in
    let read = c.iter.ensures.runs q q.seen in
    let from : q.from.rest.now ≡ words = search rules in
    let calls = mapped.2.2 (λ x y z call. search rules) in
    let stop = some.2 in
    let i = stop.0 in
    inr (first_unsaid part words i e (search rules)
    (λ k l d. at_word part (λ x y call. search rules) (λ y. (n : ℕ) × (Ok n ≡ y)) (p.at k) (q.at k) (get_or words k d) (calls.0 k) (read.2 k d (search rules) ∙ ap (λ xs. Some (get_or xs k d)) from) (stop.3 k l))
    (λ d. at_word part (λ x y call. search rules) (λ y. Err e ≡ y) (p.at i) (q.at i) (get_or words i d) (calls.0 i) (read.2 i d (search rules) ∙ ap (λ xs. Some (get_or xs i d)) from) stop.2)))
    (IfErr-at_err _ f c.try_collect.ensures.err))
