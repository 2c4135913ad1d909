use Rattle.std.proofs.Common.{◌∷◌, [], List, All, length, refl, sym, ap, subst, arith, length-append}
use Rattle.std.proofs.lemmas.List.Elements.{All-push}
use Rattle.raim_model.specs.declared.AlmRecord.{AlmRecord}
use Rattle.alm_reader.specs.declared.section.SectionReader.{SectionReader}
use Rattle.alm_reader.specs.Sections.{HasTakenSection}
use Rattle.alm_reader.specs.Almanacs.{SayEach}
use Rattle.alm_reader.proofs.reader.AlmanacReader.new.Goals as goal

pub loop-alloc-preserved : goal.loop-alloc-preserved
loop-alloc-preserved c =
    let old = c.loop-alloc.fresh.items in
    let spare = c.in_ok-spare.spare in
    let grown = c.in_default-push.ensures.items in
    let n = length-append old (spare ∷ []) in
    let size = ap (λ (x : List SectionReader). length x) c.as_slice.ensures.value in
    record {
      fresh = subst (All (λ s. HasTakenSection c.args.span s [])) (sym grown) (All-push (λ s. HasTakenSection c.args.span s []) old spare c.loop-alloc.invariant.fresh c.in_ok-spare.ensures);
      few = rw grown (omega (arith, n, size, c.loop-alloc-test.true));
    }

pub returns : goal.returns
returns c =
    let size = ap (λ (x : List SectionReader). length x) c.as_slice.ensures.value in
    record {
      flight = refl;
      taken = record {
        before = [];
        section = [];
        split = refl;
        accepted = subst (λ (x : List (List AlmRecord)). SayEach c.args.span [] x) (sym c.in-Ok.ensures) tt;
        taken = c.in_ok-section.ensures;
        passes = tt;
        fresh = c.loop-alloc.invariant.fresh;
        few = omega arith;
        spare = omega (arith, size, c.loop-alloc-test.false, c.loop-alloc.invariant.few);
        total = refl;
        counted = refl;
        begun = refl;
      };
    }
