mod GateLemmas
