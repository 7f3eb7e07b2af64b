use Rattle.std.proofs.Common.{◌≡◌, ℕ, ◌+◌, ◌-◌, ◌*◌, slice_index_or, refl, sym, ap, subst, ◌∙◌, arith}
use Rattle.qpack_base.specs.HuffmanTables.{BeginsWithCode}
use Rattle.qpack_base.proofs.LastItems.{filled, filled_short, last_end, last_code, last_cut}
use Rattle.qpack_base.proofs.prefix_string.decoding.Bits.last_item.Goals as goal

pub returns-then-window-eq255-clause-gives : goal.returns-then-window-eq255-clause-gives
returns-then-window-eq255-clause-gives c =
    let old = c.args.self.now in
    let window = ap (λ (p : ℕ). old.loaded * p + (p - 1)) c.power-places.ensures in
    last_end old c.stop.new.self c.requires.few c.requires.all (sym window ∙ c.if-window-eq255.true) c.stop.ensures.left

pub bounds-short_codes-window : goal.bounds-short_codes-window
bounds-short_codes-window c =
    let old = c.args.self.now in
    let window = ap (λ (p : ℕ). old.loaded * p + (p - 1)) c.power-places.ensures in
    omega (
      arith,
      window,
      filled_short old.count old.loaded c.requires.few c.requires.loaded.fits
          (λ e. c.if-window-eq255.false (window ∙ e)),
    )

pub bounds-short_codes-window-2 : goal.bounds-short_codes-window-2
bounds-short_codes-window-2 c =
    let old = c.args.self.now in
    let window = ap (λ (p : ℕ). old.loaded * p + (p - 1)) c.power-places.ensures in
    omega (
      arith,
      window,
      filled_short old.count old.loaded c.requires.few c.requires.loaded.fits
          (λ e. c.if-window-eq255.false (window ∙ e)),
    )

pub returns-then-bits-self-clause-gives : goal.returns-then-bits-self-clause-gives
returns-then-bits-self-clause-gives c =
    let old = c.args.self.now in
    let window = ap (λ (p : ℕ). old.loaded * p + (p - 1)) c.power-places.ensures in
    let not_all : filled old.count old.loaded ≡ 255 → ⊥ = λ e. c.if-window-eq255.false (window ∙ e) in
    let short = filled_short old.count old.loaded c.requires.few c.requires.loaded.fits not_all in
    let entry =
    subst (λ (w : ℕ). BeginsWithCode w (slice_index_or c.short_codes.result.now
    (old.loaded * c.power-places.result + (c.power-places.result - 1)) (0, 0))) window
    (c.short_codes.ensures.at _ (omega (arith, window, short))) in
    last_cut old c.stop-then-bits-self.new.self _ c.from-bits.result c.window-window.result _ c.requires.few
    c.requires.loaded.fits c.requires.all not_all entry c.from-bits.ensures c.if-bits-self.true refl
    c.stop-then-bits-self.ensures.left

pub returns-clause-gives : goal.returns-clause-gives
returns-clause-gives c =
    let old = c.args.self.now in
    let window = ap (λ (p : ℕ). old.loaded * p + (p - 1)) c.power-places.ensures in
    let not_all : filled old.count old.loaded ≡ 255 → ⊥ = λ e. c.if-window-eq255.false (window ∙ e) in
    let short = filled_short old.count old.loaded c.requires.few c.requires.loaded.fits not_all in
    let entry =
    subst (λ (w : ℕ). BeginsWithCode w (slice_index_or c.short_codes.result.now
    (old.loaded * c.power-places.result + (c.power-places.result - 1)) (0, 0))) window
    (c.short_codes.ensures.at _ (omega (arith, window, short))) in
    last_code old c.pass.new.self _ c.from-bits.result c.requires.few entry c.from-bits.ensures c.if-bits-self.false
    c.pass.ensures.rest
