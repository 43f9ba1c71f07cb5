-- `text::read` meets its contract: the pass that looks gives the answer, and the pass that fills writes only where that accepts.
use Rattle.std.proofs.Common.{ℤ, List, ◌++◌, arith, length, drop, sym, ap, ◌∙◌}
use Rattle.std.proofs.lemmas.Result.{err_from_is_err_and}
use lib.Seq.{length-take-le}
use Rattle.text.specs.Tokens.{tokens_at}
use Rattle.text.specs.Reading.{ReadAnswer, values_of}
use Rattle.text.proofs.Filling.{fill_part}
use Rattle.text.proofs.Whole.{read_inside, read_entries, read_fits, into_faulty}
use Rattle.text.proofs.read.Goals as goal

pub returns-in_err-reader-clause-list_after : goal.returns-in_err-reader-clause-list_after
returns-in_err-reader-clause-list_after c =
    let l = c.args.list.now in
    sym (into_faulty c.args.text.now l _ (c.in_err-reader.ensures.refused (length l)))

pub returns-in_err-entries : goal.returns-in_err-entries
returns-in_err-entries c =
    let t = c.args.text.now in
    let l = c.args.list.now in
    let r = c.in_ok-reader.ensures in
    let e = read_inside t _ r.opened (length l) ∙ sym (rw (r.text, c.min.ensures) at c.in_err-entries.ensures) in
    let p = err_from_is_err_and c.from_residual-in_err-entries.result c.from_residual-in_err-entries.ensures.1 in
    record { value = rw (p.1, p.2) (sym e); list_after = sym (into_faulty t l _ e) }

pub slice_bounds-fill-end : goal.slice_bounds-fill-end
slice_bounds-fill-end c =
    let t = c.args.text.now in
    let l = c.args.list.now in
    let r = c.in_ok-reader.ensures in
    let e = read_inside t _ r.opened (length l) ∙ sym (rw (r.text, c.min.ensures) at c.in_ok-entries.ensures) in
    omega (arith, ap (λ (a : ReadAnswer). a.entries) e, read_fits t (length l))

pub slice_bounds-fill-end-2 : goal.slice_bounds-fill-end-2
slice_bounds-fill-end-2 c =
    let t = c.args.text.now in
    let l = c.args.list.now in
    let r = c.in_ok-reader.ensures in
    let e = read_inside t _ r.opened (length l) ∙ sym (rw (r.text, c.min.ensures) at c.in_ok-entries.ensures) in
    sym (length-take-le c.in_ok-entries.entries l (omega (arith, ap (λ (a : ReadAnswer). a.entries) e, read_fits t (length l))))

pub returns : goal.returns
returns c =
    let t = c.args.text.now in
    let l = c.args.list.now in
    let n = c.in_ok-entries.entries in
    let r = c.in_ok-reader.ensures in
    let e = read_inside t _ r.opened (length l) ∙ sym (rw (r.text, c.min.ensures) at c.in_ok-entries.ensures) in
    let vs = values_of (tokens_at t c.in_ok-reader.reader.at) in
    record {
      value = sym e;
      list_after = ap (λ (x : List ℤ). x ++ drop n l) (rw r.text at c.fill.ensures)
          ∙ fill_part l vs n (omega (arith, ap (λ (a : ReadAnswer). a.entries) e, read_fits t (length l)))
          ∙ read_entries t _ r.opened l n e;
    }
