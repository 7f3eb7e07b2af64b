use Rattle.std.proofs.Common.{◌≡◌, ℕ, ◌∙◌, refl, sym, ap, true, false, Ok, Err}
use Rattle.std.specs.Prelude.{nat_eq, nat_lt, ◌&&◌}
use Rattle.std.proofs.lemmas.Result.{err_from_is_err_and}
use Rattle.qpack_spec.specs.Prefix.{read_strict_prefix}
use Rattle.qpack_spec.specs.Table.{window}
use Rattle.qpack_wire.specs.Prefixes.{prefix_of}
use Rattle.qpack_decoding.proofs.SectionParts.{counts, count_is, most_is, prefix_known, prefix_read, prefix_refused}
use Rattle.qpack_decoding.proofs.SectionParts.{numbers_at_zero, numbers_of}
use Rattle.qpack_decoding.proofs.section.read_numbers.Goals as goal

pub returns-then-counts_at_zero : goal.returns-then-counts_at_zero
returns-then-counts_at_zero g c =
    let p = prefix_of c.args.prefix in
    let counted : counts (window c.args.table.now) p ≡ true =
    ap (λ (m : ℕ). nat_eq m 0 && nat_lt 0 p.count) (sym (c.agreed_max-maximum.ensures.exact ∙ most_is c.args.table.now))
    ∙ sym c.counts_at_zero.ensures ∙ c.if-counts_at_zero.true in
    rw (numbers_at_zero (window c.args.table.now) p counted) refl

pub returns-in_err-get_strict : goal.returns-in_err-get_strict
returns-in_err-get_strict g c =
    let e = err_from_is_err_and c.from_residual.result c.from_residual.ensures.1 in
    let p = prefix_of c.args.prefix in
    let w = window c.args.table.now in
    let counted : counts w p ≡ false =
    ap (λ (m : ℕ). nat_eq m 0 && nat_lt 0 p.count) (sym (c.agreed_max-maximum.ensures.exact ∙ most_is c.args.table.now))
    ∙ sym c.counts_at_zero.ensures ∙ c.if-counts_at_zero.false in
    let read = prefix_refused (read_strict_prefix c.total_inserted.result c.agreed_max-maximum.result p)
    c.in_err-get_strict.field-0.0 (sym c.in_err-get_strict.ensures) in
    let known = prefix_known w c.total_inserted.result c.agreed_max-maximum.result p (Err read.0)
    (c.total_inserted.ensures ∙ count_is c.args.table.now)
    (c.agreed_max-maximum.ensures.exact ∙ most_is c.args.table.now) read.1 in
    rw (e.1, e.2, numbers_of w p (Err read.0) counted known) read.2

pub returns : goal.returns
returns g c =
    let p = prefix_of c.args.prefix in
    let w = window c.args.table.now in
    let counted : counts w p ≡ false =
    ap (λ (m : ℕ). nat_eq m 0 && nat_lt 0 p.count) (sym (c.agreed_max-maximum.ensures.exact ∙ most_is c.args.table.now))
    ∙ sym c.counts_at_zero.ensures ∙ c.if-counts_at_zero.false in
    let read = prefix_read (read_strict_prefix c.total_inserted.result c.agreed_max-maximum.result p)
    c.in_ok-get_strict.field-0.0 c.in_ok-get_strict.field-0.1 (sym c.in_ok-get_strict.ensures) in
    let known = prefix_known w c.total_inserted.result c.agreed_max-maximum.result p (Ok c.in_ok-get_strict.field-0)
    (c.total_inserted.ensures ∙ count_is c.args.table.now)
    (c.agreed_max-maximum.ensures.exact ∙ most_is c.args.table.now) read in
    numbers_of w p (Ok c.in_ok-get_strict.field-0) counted known
