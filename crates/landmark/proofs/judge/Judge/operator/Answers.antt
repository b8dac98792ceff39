use Rattle.std.proofs.Common.{◌≡◌, ◌∷◌, Some, None, sym, ap, ◌∙◌, rules}
use Rattle.landmark.specs.Lists.{counts, row_refusal, gap_since, allowance}
use Rattle.landmark.specs.Spacings.{capped}
use Rattle.landmark.specs.declared.judge.Sort.TheVariants as S
use Rattle.landmark.proofs.JudgeLaws.{adds_gap}
use Rattle.landmark.proofs.judge.Judge.operator.Goals as goal

pub returns : goal.returns
returns c i o row h =
    let adds = adds_gap i row o.sort in
    let same : counts (i ∷ row) ≡ counts row = cc in
    let free : row_refusal row S.Operator ≡ None = search rules in (
      ap (row_refusal row) o.sort ∙ free,
      record {
        counts = h.counts ∙ sym same;
        newest = ap Some (sym o.sort);
        spacing = c.plus-self.ensures (gap_since row) (allowance i) h.spacing o.allows ∙ ap capped (sym adds.spacing);
      },
    )
