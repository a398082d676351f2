use Rattle.scfs_agent.proofs.agent.Agent.stores.Goals as goal

pub ask-requires-clause-asking : goal.ask-requires-clause-asking
ask-requires-clause-asking c = (c.requires.upload.closes 0).first
