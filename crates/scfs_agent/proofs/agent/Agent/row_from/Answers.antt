use Rattle.std.proofs.Common.{arith, ap}
use Rattle.scfs_base.specs.declared.naming.UploadNo.{UploadNo}
use Rattle.scfs_agent.proofs.agent.Agent.row_from.Goals as goal

pub returns-clause-closes : goal.returns-clause-closes
returns-clause-closes c = λ number. record {
  first = omega arith;
  last = omega (arith, c.requires.base);
  root = c.whole-root.ensures.length;
  content = c.whole-content.ensures.length;
  short = omega (arith, c.len.ensures, c.requires.short);
  upload = c.upload_no-upload.ensures.fits;
  agent = ap (λ (u : UploadNo). u.agent) c.upload_no-upload.ensures.number;
  incarnation = ap (λ (u : UploadNo). u.incarnation) c.upload_no-upload.ensures.number;
}
